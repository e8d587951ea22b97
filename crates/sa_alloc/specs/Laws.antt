-- Laws of layouts.
use Rattle.std.specs.Prelude.{◌≡◌, ℕ, List, length, sum, slice_set}
use Rattle.sa_text.specs.declared.value.Value.{Value}
use Rattle.sa_alloc.specs.Layouts.{Layout, IsSound, opening_layout, put, values_of}
use Rattle.sa_alloc.specs.Tidies.{tidy}

-- the opening layout is sound, and a put keeps a layout sound
pub record PutsKeepSound : Type 0 where
  pub opening : (lengths : List ℕ) → IsSound (opening_layout lengths)
  pub put : (l : Layout) (entry : ℕ) (v : Value) → IsSound l → IsSound (put l entry v)

-- a put leaves the lengths of the arrays and the number of entries
pub record PutsKeepShape : Type 0 where
  pub lengths : (l : Layout) (entry : ℕ) (v : Value) → (put l entry v).lengths ≡ l.lengths
  pub entries : (l : Layout) (entry : ℕ) (v : Value) → length (put l entry v).states ≡ length l.states

-- in a sound layout a put changes the value of its entry, if there is one, and no other
abbrev pub PutsSetOneValue : Type 0
PutsSetOneValue = (l : Layout) (entry : ℕ) (v : Value) → IsSound l → values_of (put l entry v) ≡ slice_set (values_of l) entry v

-- a tidy of a layout has its values, and the same arrays and entries, and is sound
pub record KeepsValues (l tidied : Layout) : Type 0 where
  pub values : values_of tidied ≡ values_of l
  pub lengths : tidied.lengths ≡ l.lengths
  pub entries : length tidied.states ≡ length l.states
  pub sound : IsSound tidied

-- so it is for each sound layout with an entry for each place of its arrays
abbrev pub TidiesKeepValues : Type 0
TidiesKeepValues = (l : Layout) → IsSound l → length l.states ≡ sum l.lengths → KeepsValues l (tidy l)
