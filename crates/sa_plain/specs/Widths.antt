-- How wide a text of a fixed width is (NumPy's S and U; the limit is this project's).
use Rattle.std.specs.Prelude.{◌≤◌, ℕ, List, length, All}

-- the most bytes of a byte text, and the most code points of a unicode text, of a fixed width
abbrev pub most_width : ℕ
most_width = 256

-- the most cells of a list among lists: one more than any array has room for, so that a list that is too wide for every array can be held and named
abbrev pub most_row : ℕ
most_row = 257

-- no list has more cells than a list may have
abbrev pub AreNarrow : {T : Type 0} → List (List T) → Type 0
AreNarrow rows = All (λ row. length row ≤ most_row) rows
