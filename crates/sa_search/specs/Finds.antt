-- Where a text stands in another between two places: NumPy's numpy.strings.find, rfind, index, rindex, startswith and endswith, which are those
-- of Python's str. Places count code points.
use Rattle.std.specs.Prelude.{ℕ, zero, suc, ◌+◌, ◌-◌, ◌&&◌, min, nat_le, Bool, List, length, ℤ, pos, negsuc, Option, Some, None, option_map, if◌then◌else◌}
use Rattle.sa_text.specs.Points.{occurs_at}

-- where a search of n code points begins: a negative start counts from their end and is then at least 0; one past their end is not brought down
abbrev pub start_place : ℕ → ℤ → ℕ
start_place n (pos at) = at
start_place n (negsuc at) = n - suc at

-- where it ends: likewise, and an end past their end is brought down to it
abbrev pub end_place : ℕ → ℤ → ℕ
end_place n at = min (start_place n at) n

-- b occurs in a at the place p, between the places s and e
abbrev pub occurs : List ℕ → List ℕ → ℕ → ℕ → ℕ → Bool
occurs a b s e p = nat_le s p && (nat_le (p + length b) e && occurs_at a b p)

-- the least of n numbers from `low` on that passes, if any
abbrev pub least : (ℕ → Bool) → ℕ → ℕ → Option ℕ
least test low zero = None
least test low (suc n) = if test low then Some low else least test (low + 1) n

-- the greatest number below n that passes, if any
abbrev pub greatest : (ℕ → Bool) → ℕ → Option ℕ
greatest test zero = None
greatest test (suc n) = if test n then Some n else greatest test n

-- the first place, and the last place, of those from 0 to the length of a, at which b occurs between s and e
abbrev pub first_place : List ℕ → List ℕ → ℕ → ℕ → Option ℕ
first_place a b s e = least (occurs a b s e) 0 (length a + 1)

abbrev pub last_place : List ℕ → List ℕ → ℕ → ℕ → Option ℕ
last_place a b s e = greatest (occurs a b s e) (length a + 1)

-- the place, and -1 where there is none
abbrev pub or_minus_one : Option ℕ → ℤ
or_minus_one (Some p) = pos p
or_minus_one None = negsuc 0

abbrev pub find : List ℕ → List ℕ → ℤ → ℤ → ℤ
find a b start end = or_minus_one (first_place a b (start_place (length a) start) (end_place (length a) end))

abbrev pub rfind : List ℕ → List ℕ → ℤ → ℤ → ℤ
rfind a b start end = or_minus_one (last_place a b (start_place (length a) start) (end_place (length a) end))

abbrev pub index : List ℕ → List ℕ → ℤ → ℤ → Option ℤ
index a b start end = option_map pos (first_place a b (start_place (length a) start) (end_place (length a) end))

abbrev pub rindex : List ℕ → List ℕ → ℤ → ℤ → Option ℤ
rindex a b start end = option_map pos (last_place a b (start_place (length a) start) (end_place (length a) end))

-- b occurs where the search begins
abbrev pub starts : List ℕ → List ℕ → ℤ → ℤ → Bool
starts a b start end = let s = start_place (length a) start in occurs a b s (end_place (length a) end) s

-- b occurs so that it ends where the search ends
abbrev pub ends : List ℕ → List ℕ → ℤ → ℤ → Bool
ends a b start end =
    let s = start_place (length a) start in
    let e = end_place (length a) end in
    nat_le (s + length b) e && occurs a b s e (e - length b)
