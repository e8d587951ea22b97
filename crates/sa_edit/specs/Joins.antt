-- Texts one after the other: NumPy's numpy.strings.add and multiply, which are `+` and `*` of Python's str; a count below 1 counts as 0 in both.
use Rattle.std.specs.Prelude.{ℕ, ◌++◌, List, replicate, ℤ, pos, negsuc}
use Rattle.std.specs.List.{concat}

-- the number itself, and 0 in place of a negative one
abbrev pub at_least_zero : ℤ → ℕ
at_least_zero (pos n) = n
at_least_zero (negsuc n) = 0

-- the first text, then the second
abbrev pub add : List ℕ → List ℕ → List ℕ
add a b = a ++ b

-- the text so many times: not at all where the number is below 1
abbrev pub multiply : List ℕ → ℤ → List ℕ
multiply a n = concat (replicate (at_least_zero n) a)
