-- Views of arrays: the places that one names, reading them and putting into them. Source: strided views of NumPy.
use Rattle.std.specs.Prelude.{ℕ, ◌==◌, nat_lt, nat_le, Bool, false, ◌&&◌, not, List, [], ◌∷◌, map, slice_index_or, slice_set, if◌then◌else◌, ℤ, pos, negsuc, ◌+ℤ◌, ◌*ℤ◌}
use Rattle.std.specs.List.{range_with_len, list_all, list_any}
use Rattle.sa_view.specs.declared.view.View.{View}

-- a whole number, where it is at least 0
abbrev pub natural : ℤ → ℕ
natural (pos n) = n
natural (negsuc n) = 0

-- the whole number at k: start + k * step
abbrev pub at_step : View → ℕ → ℤ
at_step v k = pos v.start +ℤ (pos k *ℤ v.step)

-- the place at k
abbrev pub place_at : View → ℕ → ℕ
place_at v k = natural (at_step v k)

-- the places that a view names, in order
abbrev pub places_of : View → List ℕ
places_of v = map (place_at v) (range_with_len 0 v.count)

abbrev pub is_zero : ℤ → Bool
is_zero (pos n) = n == 0
is_zero (negsuc n) = false

-- the whole number is a place of an array of this length
abbrev pub is_within : ℕ → ℤ → Bool
is_within length (pos n) = nat_lt n length
is_within length (negsuc n) = false

abbrev pub all_within : ℕ → View → Bool
all_within length v = list_all (λ k. is_within length (at_step v k)) (range_with_len 0 v.count)

-- A view fits an array of this length: its step is not 0, and either it names no place and starts at most behind the last one, or each place that it names is one of the array.
abbrev pub fits : ℕ → View → Bool
fits length v = not (is_zero v.step) && (if v.count == 0 then nat_le v.start length else all_within length v)

-- the greatest length of an array
abbrev pub greatest_length : ℕ
greatest_length = 4294967295

-- the view fits some length
abbrev pub fits_some : View → Bool
fits_some v = fits greatest_length v

-- the view names this place
abbrev pub names : View → ℕ → Bool
names v place = list_any (λ p. p == place) (places_of v)

-- both name one array, and have a place in common
abbrev pub overlap : View → View → Bool
overlap a b = (a.array == b.array) && list_any (names b) (places_of a)

-- the items at these places, in order
abbrev pub read_at : {A : Type 0} → A → List A → List ℕ → List A
read_at d xs places = map (λ p. slice_index_or xs p d) places

-- the items with these put at these places, in order
abbrev pub put_at : {A : Type 0} → List A → List ℕ → List A → List A
put_at xs [] ys = xs
put_at xs (p ∷ ps) [] = xs
put_at xs (p ∷ ps) (y ∷ ys) = put_at (slice_set xs p y) ps ys
