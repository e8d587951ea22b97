-- How an arena holds its extents: a table with a member for each, and the buffer with their bytes.
use Rattle.std.specs.Prelude.{◌≡◌, ℕ, ◌+◌, ◌*◌, ◌≤◌, if◌then◌else◌, List, [], ◌∷◌, length, take, drop, map, Some, None}
use Rattle.sa_arena.specs.declared.arena.Member.{Member}
use Rattle.sa_arena.specs.Extents.{Extent, Region, least_text, most_text, text_bytes, prefix_size, extent_size, cursor_of, live_bytes, has_text, trimmed}
use Rattle.sa_arena.specs.Images.{image_of}

-- the extent that a member says, read from the buffer
abbrev pub extent_in : List ℕ → Member → Extent
extent_in bytes m = record { capacity = m.capacity; text = if m.live then Some (take m.size (drop m.at bytes)) else None }

-- what a table and a buffer hold
abbrev pub region_in : List Member → List ℕ → Region
region_in table bytes = record { extents = map (extent_in bytes) table; size = length bytes }

-- the member of an extent that begins at a place
abbrev pub member_of : ℕ → Extent → Member
member_of start e = record { at = start + prefix_size e.capacity; capacity = e.capacity; size = length (text_bytes e); live = has_text e }

-- the table of extents of which the first begins at a place
abbrev pub table_from : ℕ → List Extent → List Member
table_from start [] = []
table_from start (e ∷ es) = member_of start e ∷ table_from (start + extent_size e) es

-- the fewest bytes of an extent: a prefix of one byte and the shortest text
abbrev pub least_extent : ℕ
least_extent = 1 + least_text

-- an extent as the arena makes it
pub record IsSized (e : Extent) : Type 0 where
  pub least : least_text ≤ e.capacity
  pub most : e.capacity ≤ most_text
  pub fits : length (text_bytes e) ≤ e.capacity

abbrev pub AllSized : List Extent → Type 0
AllSized [] = Unit {0}
AllSized (e ∷ es) = IsSized e × AllSized es

-- A region is held by a table and a buffer: the table tells the extents and where they lie, the front of the buffer is their image, and the table has a place for each 17 bytes of the buffer, and one place more at most.
pub record Holds (r : Region) (table : List Member) (bytes : List ℕ) (cursor live places : ℕ) : Type 0 where
  pub table_is : table ≡ table_from 0 r.extents
  pub sized : AllSized r.extents
  pub trim : trimmed r.extents ≡ r.extents
  pub cursor_is : cursor ≡ cursor_of r.extents
  pub live_is : live ≡ live_bytes r.extents
  pub size_is : length bytes ≡ r.size
  pub within : cursor ≤ length bytes
  pub image_is : take cursor bytes ≡ image_of r.extents
  pub room : length bytes ≤ least_extent * places
  pub most_places : least_extent * places ≤ length bytes + least_extent
