-- Texts of a width in code points: NumPy's numpy.strings.center, ljust, rjust and zfill, which are those of Python's str. The side of the odd
-- fill is that of CPython's str.center, and is claimed of no release of NumPy; the sign of zfill is a first code point alone, as in str.zfill.
-- A width at or below the length, a negative one too, changes nothing.
use Rattle.std.specs.Prelude.{ℕ, ◌+◌, ◌-◌, ◌/◌, ◌%◌, ◌==◌, ◌&&◌, ◌||◌, ◌++◌, [], ◌∷◌, List, length, take, drop, replicate, ℤ, if◌then◌else◌}
use Rattle.sa_edit.specs.Joins.{at_least_zero}

-- how many code points a text lacks of a width: none where the width is at or below its length
abbrev pub missing : List ℕ → ℤ → ℕ
missing a width = at_least_zero width - length a

-- how many of the missing code points stand in front of a text in the middle: half of them, and one more where they and the width are both odd
abbrev pub left_of : ℕ → ℕ → ℕ
left_of pad width = if (pad % 2 == 1) && (width % 2 == 1) then pad / 2 + 1 else pad / 2

-- the text between so many fills
abbrev pub padded : List ℕ → ℕ → ℕ → ℕ → List ℕ
padded a fill left right = replicate left fill ++ (a ++ replicate right fill)

-- the text in the middle of the width
abbrev pub center : List ℕ → ℤ → ℕ → List ℕ
center a width fill = let pad = missing a width in let left = left_of pad (at_least_zero width) in padded a fill left (pad - left)

-- the text at the left of the width
abbrev pub ljust : List ℕ → ℤ → ℕ → List ℕ
ljust a width fill = padded a fill 0 (missing a width)

-- the text at the right of the width
abbrev pub rjust : List ℕ → ℤ → ℕ → List ℕ
rjust a width fill = padded a fill (missing a width) 0

-- how many code points the sign has that a text begins with: one for `+` and `-`
abbrev pub sign_length : List ℕ → ℕ
sign_length [] = 0
sign_length (c ∷ cs) = if (c == 43) || (c == 45) then 1 else 0

-- zeros behind the sign, and in front where there is none
abbrev pub zfill : List ℕ → ℤ → List ℕ
zfill a width = take (sign_length a) a ++ (replicate (missing a width) 48 ++ drop (sign_length a) a)
