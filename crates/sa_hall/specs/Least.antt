-- The least of numbers that are not below a bound. Source: this project.
use Rattle.std.specs.Prelude.{ℕ, nat_lt, nat_le, List, [], ◌∷◌, Option, Some, None, if◌then◌else◌}

-- the nearer to the bound of a number and the least so far
abbrev pub nearer : ℕ → Option ℕ → ℕ → Option ℕ
nearer bound None n = if nat_lt n bound then None else Some n
nearer bound (Some m) n = if nat_lt n bound then Some m else if nat_le m n then Some m else Some n

-- the least so far, or one of the numbers that is nearer to the bound
abbrev pub least_in : ℕ → Option ℕ → List ℕ → Option ℕ
least_in bound least [] = least
least_in bound least (n ∷ ns) = least_in bound (nearer bound least n) ns

abbrev pub least_from : ℕ → List ℕ → Option ℕ
least_from bound ns = least_in bound None ns
