-- The bytes that stand for themselves between quotation marks: one rule for reading and for writing, this project's own.
use Rattle.std.specs.Prelude.{ℕ, ◌==◌, nat_lt, Bool, false, ◌||◌, not, List, [], ◌∷◌}

-- a quotation mark, a backslash, the control character 127, or one below 32
abbrev pub is_marked : ℕ → Bool
is_marked b = (((b == 34) || (b == 92)) || (b == 127)) || nat_lt b 32

-- each other byte
abbrev pub is_plain : ℕ → Bool
is_plain b = not (is_marked b)

-- the first of the bytes is plain
abbrev pub begins_plain : List ℕ → Bool
begins_plain [] = false
begins_plain (b ∷ bs) = is_plain b
