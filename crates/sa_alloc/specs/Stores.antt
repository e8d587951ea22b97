-- What contracts see of a store and of a plan.
use Rattle.std.specs.Prelude.{◌≡◌, ℕ, ◌+◌, ◌<◌, ◌≤◌, nat_eq, List, map, length, slice_index, IsUtf8}
use Rattle.std.specs.List.{AllByRecursion, IsDistinct}
use Rattle.std.specs.Str.{chars}
use Rattle.sa_text.specs.Texts.{most_bytes}
use Rattle.sa_text.specs.declared.value.Value.{Value}
use Rattle.sa_text.specs.declared.value.Value.TheVariants as value
use Rattle.sa_arena.specs.Extents.{cursor_of}
use Rattle.sa_alloc.specs.Layouts.{first_entry}
use Rattle.sa_alloc.specs.Needs.{bytes_needed, keys_needed}
use Rattle.sa_alloc.specs.PlanValues.{PlanValue}
use Rattle.sa_alloc.specs.StoreValues.{StoreValue}
use Rattle.sa_alloc.specs.declared.seen.Seen.{Seen}
use Rattle.sa_alloc.specs.declared.seen.Seen.TheVariants as seen

-- the array has the place
pub record IsPlace (lengths : List ℕ) (array place : ℕ) : Type 0 where
  pub known : array < length lengths
  pub within : place < slice_index lengths array

-- the puts of a plan, by the numbers of their entries
abbrev pub puts_from : ℕ → List (ℕ × Value) → List (ℕ × Value)
puts_from first puts = map (λ p. (first + p.0, p.1)) puts

abbrev pub puts_of : List ℕ → PlanValue → List (ℕ × Value)
puts_of lengths plan = puts_from (first_entry lengths plan.array) plan.puts

-- no place stands twice
abbrev pub AreDistinct : List ℕ → Type 0
AreDistinct places = IsDistinct nat_eq places

-- the array and the places of a plan exist
pub record IsPlan (lengths : List ℕ) (plan : PlanValue) : Type 0 where
  pub array : plan.array < length lengths
  pub places : AllByRecursion (λ (p : ℕ × Value). p.0 < slice_index lengths plan.array) plan.puts

-- a store has the spare that puts need
pub record HasRoom (s : StoreValue) (puts : List (ℕ × Value)) : Type 0 where
  pub bytes : cursor_of s.contents.layout.extents + bytes_needed s.contents.layout puts ≤ s.room.size
  pub keys : keys_needed s.contents.layout puts ≤ s.room.spare

-- what a load answers of a value: a text is lent as its UTF-8
abbrev pub Shows : Seen → Value → Type 0
Shows seen.Missing v = v ≡ value.Missing
Shows (seen.Bytes bytes) v = (v ≡ value.Of (chars bytes.now)) × IsUtf8 bytes.now × (length bytes.now ≤ most_bytes)
