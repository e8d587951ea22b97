-- The elements of a call: results or refusals, and the first that is refused.
use Rattle.std.specs.Prelude.{◌≡◌, ℕ, ◌+◌, nat_lt, Bool, true, false, ◌&&◌, List, [], ◌∷◌, map, Option, Some, None, Result, Ok, Err, if◌then◌else◌}
use Rattle.std.specs.List.{list_any, range_with_len}
use Rattle.sa_base.specs.Items.{Item, MissingItem, TextItem, IntegerItem, FlagItem, BytesItem, UnitsItem}
use Rattle.sa_call.specs.declared.call.Op.{Op}
use Rattle.sa_text.specs.Values.{item_of}
use Rattle.sa_call.specs.declared.cell.Cell.{Cell}
use Rattle.sa_call.specs.declared.cell.Cell.TheVariants as cell
use Rattle.sa_call.specs.declared.element.Stop.{Stop}
use Rattle.sa_call.specs.declared.element.Stop.TheVariants as stop
use Rattle.sa_call.specs.declared.reply.Refusal.{Refusal}
use Rattle.sa_call.specs.declared.reply.Refusal.TheVariants as refusal
use Rattle.sa_plain.specs.Items.{items_of, item_weight}
use Rattle.sa_plain.specs.declared.items.Items.{Items}
use Rattle.sa_descr.specs.declared.missing.Miss.{Miss}
use Rattle.sa_descr.specs.declared.missing.Miss.TheVariants.{Gone, AsText, No, Yes, Refuse}
use Rattle.sa_call.specs.Forms.{Row, entry, item_in}
use Rattle.sa_call.specs.Limits.{most_weight}

-- how a call treats missing values: what comes of an element with a missing text, none where values are moved as they are, and the text that stands for a missing one
pub record Setting : Type 0 where
  pub miss : Option Miss
  pub blank : List ℕ

abbrev pub is_missing_item : Item → Bool
is_missing_item MissingItem = true
is_missing_item (TextItem text) = false
is_missing_item (IntegerItem n) = false
is_missing_item (FlagItem b) = false
is_missing_item (BytesItem bytes) = false
is_missing_item (UnitsItem units) = false

-- an element in which a text is missing, or none is, and what is computed of it
abbrev pub missed : Miss → Result Item Refusal → Result Item Refusal
missed Gone computed = Ok MissingItem
missed AsText computed = computed
missed No computed = Ok (FlagItem false)
missed Yes computed = Ok (FlagItem true)
missed Refuse computed = Err refusal.MissingValue

abbrev pub treated : Option Miss → Bool → Result Item Refusal → Result Item Refusal
treated None missing computed = computed
treated (Some miss) missing computed = if missing then missed miss computed else computed

-- an operand has a missing item at the element's place
abbrev pub any_missing : Row → Bool
any_missing row = list_any (λ items. is_missing_item (item_in items row.at)) row.columns

abbrev pub item_is_missing : Items → ℕ → Bool
item_is_missing items at = is_missing_item (item_in (items_of items) at)

-- one element of a call, by its entry in the table
abbrev pub element_of : Setting → Op → Row → Result Item Refusal
element_of s op row = treated s.miss (any_missing row) ((entry op).element row)

-- the elements of a call, this many
abbrev pub elements : Setting → Op → List (List Item) → ℕ → List (Result Item Refusal)
elements s op columns count = map (λ k. element_of s op (record { columns = columns; at = k; blank = s.blank })) (range_with_len 0 count)

-- want of memory apart, an element is computed as it is defined
abbrev pub StopsElement : Stop → Result Item Refusal → Type 0
StopsElement stop.Memory defined = Unit {0}
StopsElement (stop.Refused cause) defined = defined ≡ Err cause

-- the item that a computed one is
abbrev pub cell_item : Cell → Item
cell_item (cell.Value value) = item_of value
cell_item (cell.Number n) = IntegerItem n
cell_item (cell.Flag b) = FlagItem b

abbrev pub GivesElement : Result Cell Stop → Result Item Refusal → Type 0
GivesElement (Ok cell) defined = defined ≡ Ok (cell_item cell)
GivesElement (Err error) defined = StopsElement error defined

-- a result that follows this weight is refused where it is missing and the output forbids that, and where the weight passes its limit with it
abbrev pub admitted : Bool → ℕ → Item → Result Item Refusal
admitted forbidden weight item =
    if forbidden && is_missing_item item then Err refusal.NoMissing
    else (if nat_lt most_weight (weight + item_weight item) then Err refusal.TooMuch else Ok item)

-- an element that is refused stays so
abbrev pub and_admitted : Bool → ℕ → Result Item Refusal → Result Item Refusal
and_admitted forbidden weight (Ok item) = admitted forbidden weight item
and_admitted forbidden weight (Err cause) = Err cause

abbrev pub with_front : Item → Result (List Item) (Refusal × ℕ) → Result (List Item) (Refusal × ℕ)
with_front item (Ok items) = Ok (item ∷ items)
with_front item (Err refused) = Err refused

abbrev pub and_later : ℕ → Result Item Refusal → (Item → Result (List Item) (Refusal × ℕ)) → Result (List Item) (Refusal × ℕ)
and_later at (Ok item) later = with_front item (later item)
and_later at (Err cause) later = Err (cause, at)

-- the results that follow this weight and this many elements, or the first refusal among them with its place
abbrev pub gathered : Bool → ℕ → ℕ → List (Result Item Refusal) → Result (List Item) (Refusal × ℕ)
gathered forbidden weight at [] = Ok []
gathered forbidden weight at (e ∷ es) = and_later at (and_admitted forbidden weight e) (λ item. gathered forbidden (weight + item_weight item) (at + 1) es)
