-- A write into a buffer: this project's own word for it.
use Rattle.std.specs.Prelude.{ℕ, List, ◌++◌, length, take, drop}

-- a buffer with these bytes in the place of as many, from a place on
abbrev pub written : List ℕ → ℕ → List ℕ → List ℕ
written bytes at new = take at bytes ++ (new ++ drop (length new) (drop at bytes))
