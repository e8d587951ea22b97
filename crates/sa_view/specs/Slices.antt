-- Slices: the view that two optional bounds and a step name in an array of a length. Source: Python's slices.
use Rattle.std.specs.Prelude.{ℕ, zero, suc, ◌+◌, ◌-◌, ◌*◌, nat_lt, min, Option, Some, None, count_by, ℤ, pos, negsuc}
use Rattle.std.specs.List.{range_with_len}
use Rattle.sa_view.specs.declared.view.View.{View}

-- With a step above 0: a negative bound has the length n added and is then at least 0, and each is at most n; without one, this stands in its place.
abbrev pub bound_up : ℕ → ℕ → Option ℤ → ℕ
bound_up n without None = without
bound_up n without (Some (pos a)) = min a n
bound_up n without (Some (negsuc a)) = n - (a + 1)

-- With a step below 0: a negative bound has n added and is then at least -1, and each is at most n - 1. Told is one more than the bound, so that it is at least 0.
abbrev pub bound_down : ℕ → ℕ → Option ℤ → ℕ
bound_down n without None = without
bound_down n without (Some (pos a)) = min (a + 1) n
bound_down n without (Some (negsuc a)) = n - a

-- how many of s, s + c, s + 2 * c and so on are below e, before one that is not; at most n
abbrev pub count_up : ℕ → ℕ → ℕ → ℕ → ℕ
count_up n s e c = count_by (λ k. nat_lt (s + k * c) e) (range_with_len 0 n)

-- how many of s, s - c, s - 2 * c and so on are above e, where s and e are told as one more than they are
abbrev pub count_down : ℕ → ℕ → ℕ → ℕ → ℕ
count_down n s e c = count_by (λ k. nat_lt (e + k * c) s) (range_with_len 0 n)

-- this many places from a start by a step; without places the start is 0
abbrev pub slice_view : ℕ → ℕ → ℕ → ℤ → View
slice_view array start zero step = record { array = array; start = 0; count = 0; step = step }
slice_view array start (suc n) step = record { array = array; start = start; count = suc n; step = step }

-- The slice a:b:c of an array of length n, with c not 0. Without a bound, a slice that goes up is from the first place to behind the last, and one that goes down from the last place to before the first.
abbrev pub slice_of : ℕ → ℕ → Option ℤ → Option ℤ → ℤ → View
slice_of array n a b (pos c) = slice_view array (bound_up n 0 a) (count_up n (bound_up n 0 a) (bound_up n n b) c) (pos c)
slice_of array n a b (negsuc c) = slice_view array (bound_down n n a - 1) (count_down n (bound_down n n a) (bound_down n 0 b) (c + 1)) (negsuc c)
