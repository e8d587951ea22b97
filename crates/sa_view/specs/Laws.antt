-- What holds of views, of what is put at places, and of slices.
use Rattle.std.specs.Prelude.{◌≡◌, ◌≢◌, ℕ, ◌<◌, ◌≤◌, ◌==◌, nat_eq, true, false, List, length, slice_index_or, Option, Some, None, ℤ, pos, negsuc}
use Rattle.std.specs.List.{AllByRecursion, IsDistinct, list_any}
use Rattle.sa_view.specs.Slices.{slice_of}
use Rattle.sa_view.specs.Views.{fits, places_of, put_at, read_at}
use Rattle.sa_view.specs.declared.view.View.{View}

-- these are so many places of an array of this size, and none stands twice
pub record ArePlaces (size many : ℕ) (places : List ℕ) : Type 0 where
  pub count : length places ≡ many
  pub distinct : IsDistinct nat_eq places
  pub within : AllByRecursion (λ p. p < size) places

-- a view that fits an array names places of it
abbrev pub PlacesArePlaces : Type 0
PlacesArePlaces = (v : View) (n : ℕ) → fits n v ≡ true → ArePlaces n v.count (places_of v)

-- A view that fits an array fits each longer one, and so some array.
abbrev pub FitsMore : Type 0
FitsMore = (v : View) (n m : ℕ) → n ≤ m → fits n v ≡ true → fits m v ≡ true

-- the list is these items put at these places: they are read there, each other place has its item, and there are as many
pub record IsPut {A : Type 0} (d : A) (xs : List A) (places : List ℕ) (ys after : List A) : Type 0 where
  pub read : read_at d after places ≡ ys
  pub kept : (i : ℕ) → list_any (λ p. p == i) places ≡ false → slice_index_or after i d ≡ slice_index_or xs i d
  pub as_long : length after ≡ length xs

-- What is put at distinct places of a list is read there, and nothing else changes.
abbrev pub PutIsRead : Type 0
PutIsRead = (d : ℕ) (xs : List ℕ) (places : List ℕ) (ys : List ℕ) → ArePlaces (length xs) (length ys) places → IsPut d xs places ys (put_at xs places ys)

-- A slice of an array fits it.
abbrev pub SliceFits : Type 0
SliceFits = (array n : ℕ) (a b : Option ℤ) (c : ℤ) → c ≢ pos 0 → fits n (slice_of array n a b c) ≡ true

-- the slice of the array 0 of length 3 has this start, count and step
pub record IsSlice (a b : Option ℤ) (c : ℤ) (start count : ℕ) (step : ℤ) : Type 0 where
  pub slice : slice_of 0 3 a b c ≡ record { array = 0; start = start; count = count; step = step }

-- Slices of an array of length 3: ::-1, -2:, :-1:2, 5: and 5::3.
pub record SlicesWorked : Type 0 where
  pub reversed : IsSlice None None (negsuc 0) 2 3 (negsuc 0)
  pub last_two : IsSlice (Some (negsuc 1)) None (pos 1) 1 2 (pos 1)
  pub every_other : IsSlice None (Some (negsuc 0)) (pos 2) 0 1 (pos 2)
  pub behind : IsSlice (Some (pos 5)) None (pos 1) 0 0 (pos 1)
  pub behind_by_three : IsSlice (Some (pos 5)) None (pos 3) 0 0 (pos 3)
