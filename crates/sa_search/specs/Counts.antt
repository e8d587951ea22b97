-- How often a text stands in another between two places: NumPy's numpy.strings.count, which is that of Python's str.
use Rattle.std.specs.Prelude.{ℕ, zero, suc, ◌+◌, ◌-◌, ◌==◌, nat_le, nat_eq, List, [], ◌∷◌, length, slice_range, ℤ, if◌then◌else◌}
use Rattle.std.specs.List.{starts_with}
use Rattle.sa_search.specs.Finds.{start_place, end_place}

-- how often b, which is not empty, stands in a text, taken from the left, each time at the least place at or behind the end of the one before;
-- so many of the text's code points are passed over first
abbrev pub count_of : List ℕ → ℕ → List ℕ → ℕ
count_of b skip [] = 0
count_of b (suc skip) (c ∷ cs) = count_of b skip cs
count_of b zero (c ∷ cs) = if starts_with nat_eq (c ∷ cs) b then suc (count_of b (length b - 1) cs) else count_of b zero cs

-- between two places; the empty text stands at each place from the first to the second, both among them
abbrev pub count : List ℕ → List ℕ → ℤ → ℤ → ℕ
count a b start end =
    let s = start_place (length a) start in
    let e = end_place (length a) end in
    if length b == 0 then (if nat_le s e then e - s + 1 else 0) else count_of b 0 (slice_range a s e)
