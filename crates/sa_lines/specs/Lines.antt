-- The lines of a script or a report, and which of them are skipped.
use Rattle.std.specs.Prelude.{ℕ, ◌==◌, Bool, true, ◌||◌, List, [], ◌∷◌, ◌++◌, if◌then◌else◌}
use Rattle.std.specs.Str.Lines.{lines}

-- The lines of a text: those of Rust's `str::lines`. A line ends with a line feed, and a carriage return just before it is dropped; after the last line feed an empty rest is no line.
abbrev pub lines_of : List ℕ → List (List ℕ)
lines_of bytes = lines bytes

-- a space or a tab
abbrev pub is_blank : ℕ → Bool
is_blank b = (b == 32) || (b == 9)

-- the line has blanks alone, or its first byte that is none is #
abbrev pub is_skipped : List ℕ → Bool
is_skipped [] = true
is_skipped (b ∷ bs) = if is_blank b then is_skipped bs else b == 35

-- a line with its line feed
abbrev pub line : List ℕ → List ℕ
line bytes = bytes ++ 10 ∷ []
