-- The length of several counts. Source: broadcasting of NumPy, in one dimension.
use Rattle.std.specs.Prelude.{ℕ, ◌==◌, List, [], ◌∷◌, Option, Some, None, option_and_then, if◌then◌else◌}

-- the length of counts and one more: 1 gives way to each other count, and two others must be the same
abbrev pub joined : ℕ → ℕ → Option ℕ
joined length count = if count == 1 then Some length else (if length == 1 then Some count else (if length == count then Some length else None))

abbrev pub broadcast_on : ℕ → List ℕ → Option ℕ
broadcast_on length [] = Some length
broadcast_on length (n ∷ ns) = option_and_then (λ l. broadcast_on l ns) (joined length n)

-- The one count that is not 1, or 1. There is none where two counts that are not 1 differ.
abbrev pub broadcast : List ℕ → Option ℕ
broadcast counts = broadcast_on 1 counts
