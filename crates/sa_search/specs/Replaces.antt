-- A text in place of another in a third: NumPy's numpy.strings.replace, which is that of Python's str.
use Rattle.std.specs.Prelude.{ℕ, zero, suc, ◌+◌, ◌-◌, ◌==◌, nat_eq, List, [], ◌∷◌, ◌++◌, length, ℤ, pos, negsuc, if◌then◌else◌}
use Rattle.std.specs.List.{starts_with}

-- a text with `new` in place of `old`, which is not empty, where it stands the first n times, taken from the left as they are counted; so many
-- of the text's code points are passed over first
abbrev pub replaced : List ℕ → List ℕ → ℕ → ℕ → List ℕ → List ℕ
replaced old new n skip [] = []
replaced old new n (suc skip) (c ∷ cs) = replaced old new n skip cs
replaced old new zero zero (c ∷ cs) = c ∷ cs
replaced old new (suc n) zero (c ∷ cs) =
    if starts_with nat_eq (c ∷ cs) old then new ++ replaced old new n (length old - 1) cs else c ∷ replaced old new (suc n) zero cs

-- a text with `new` at its first n places: before each code point, and at the end
abbrev pub spread : List ℕ → ℕ → List ℕ → List ℕ
spread new zero cs = cs
spread new (suc n) [] = new
spread new (suc n) (c ∷ cs) = new ++ c ∷ spread new n cs

-- how many places are replaced: where the number is negative all of them, of which n code points have n + 1 at most
abbrev pub limit : ℕ → ℤ → ℕ
limit n (pos count) = count
limit n (negsuc count) = n + 1

-- the first places, or all; the empty text stands before each code point and at the end
abbrev pub replace : List ℕ → List ℕ → List ℕ → ℤ → List ℕ
replace a old new count =
    if length old == 0 then spread new (limit (length a) count) a else replaced old new (limit (length a) count) 0 a
