-- The first refusal among items that are moved as they are.
use Rattle.std.specs.Prelude.{ℕ, ◌+◌, nat_lt, Bool, ◌&&◌, List, [], ◌∷◌, Option, Some, None, if◌then◌else◌}
use Rattle.sa_base.specs.Items.{Item}
use Rattle.sa_plain.specs.Items.{item_weight}
use Rattle.sa_call.specs.declared.reply.Refusal.{Refusal}
use Rattle.sa_call.specs.declared.reply.Refusal.TheVariants as refusal
use Rattle.sa_call.specs.Elements.{is_missing_item}
use Rattle.sa_call.specs.Limits.{most_weight}

-- Why an item that follows this weight is refused: it is missing and the output forbids that, or the weight passes its limit with it.
abbrev pub refusal_of : Bool → ℕ → Item → Option Refusal
refusal_of forbidden weight item =
    if forbidden && is_missing_item item then Some refusal.NoMissing
    else (if nat_lt most_weight (weight + item_weight item) then Some refusal.TooMuch else None)

abbrev pub at_place : ℕ → Option Refusal → Option (Refusal × ℕ) → Option (Refusal × ℕ)
at_place at None later = later
at_place at (Some cause) later = Some (cause, at)

-- the first refusal among items that follow this weight and this many elements
abbrev pub refused : Bool → ℕ → ℕ → List Item → Option (Refusal × ℕ)
refused forbidden weight at [] = None
refused forbidden weight at (item ∷ items) = at_place at (refusal_of forbidden weight item) (refused forbidden (weight + item_weight item) (at + 1) items)
