-- Texts without what stands at their ends: NumPy's numpy.strings.strip, lstrip and rstrip, which are those of Python's str.
use Rattle.std.specs.Prelude.{◌≡◌, ◌<◌, ℕ, Bool, false, List, get_or, [], ◌∷◌, reverse, Option, Some, None, nat_eq, if◌then◌else◌}
use Rattle.std.specs.List.{list_any}
use Rattle.sa_text.specs.Spaces.{is_space}

-- without the longest front of code points that pass
abbrev pub without_front : (ℕ → Bool) → List ℕ → List ℕ
without_front test [] = []
without_front test (c ∷ cs) = if test c then without_front test cs else c ∷ cs

-- without the longest end of code points that pass
abbrev pub without_back : (ℕ → Bool) → List ℕ → List ℕ
without_back test cs = reverse (without_front test (reverse cs))

-- the code point is one of those of a text, or with no text a space
abbrev pub is_in : Option (List ℕ) → ℕ → Bool
is_in None point = is_space point
is_in (Some points) point = list_any (nat_eq point) points

-- without what is in the set at the start
abbrev pub lstrip : List ℕ → Option (List ℕ) → List ℕ
lstrip a set = without_front (is_in set) a

-- without what is in the set at the end
abbrev pub rstrip : List ℕ → Option (List ℕ) → List ℕ
rstrip a set = without_back (is_in set) a

-- without what is in the set at both ends; a set of no code point takes nothing away
abbrev pub strip : List ℕ → Option (List ℕ) → List ℕ
strip a set = without_back (is_in set) (without_front (is_in set) a)

-- the table tells of each ASCII code point whether it is among those of a text; with no text it tells nothing
abbrev pub TellsAscii : Option (List ℕ) → List Bool → Type 0
TellsAscii None table = Unit {0}
TellsAscii (Some points) table = (point : ℕ) → point < 128 → get_or table point false ≡ list_any (nat_eq point) points
