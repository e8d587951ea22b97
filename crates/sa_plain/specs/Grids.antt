-- Rows of one width that stand one behind another: this project's own layout.
use Rattle.std.specs.Prelude.{ℕ, zero, suc, List, [], ◌∷◌, take, drop}

-- so many rows of a width, cut from the front of a list of cells
abbrev pub rows : {T : Type 0} → ℕ → ℕ → List T → List (List T)
rows zero width cells = []
rows (suc count) width cells = take width cells ∷ rows count width (drop width cells)
