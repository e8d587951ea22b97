-- The shares of things: the first of each so many, and the others. Source: this project.
use Rattle.std.specs.Prelude.{ℕ, zero, suc, List, [], ◌∷◌}

-- the first of each so many things, of which so many are passed over in between; this many come before the next
abbrev pub firsts : {P : Type 0} → ℕ → ℕ → List P → List P
firsts skip k [] = []
firsts skip zero (x ∷ xs) = x ∷ firsts skip skip xs
firsts skip (suc k) (x ∷ xs) = firsts skip k xs

-- the things that are passed over
abbrev pub others : {P : Type 0} → ℕ → ℕ → List P → List P
others skip k [] = []
others skip zero (x ∷ xs) = others skip skip xs
others skip (suc k) (x ∷ xs) = x ∷ others skip k xs

-- how many come before the next first one, after these things
abbrev pub turn_after : {P : Type 0} → ℕ → ℕ → List P → ℕ
turn_after skip k [] = k
turn_after skip zero (x ∷ xs) = turn_after skip skip xs
turn_after skip (suc k) (x ∷ xs) = turn_after skip k xs

-- how many first ones so many things have
abbrev pub firsts_in : ℕ → ℕ → ℕ → ℕ
firsts_in skip k zero = zero
firsts_in skip zero (suc n) = suc (firsts_in skip skip n)
firsts_in skip (suc k) (suc n) = firsts_in skip k n
