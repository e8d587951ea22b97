-- The bytes that extents are, one behind another: this project's own layout.
use Rattle.std.specs.Prelude.{ℕ, ◌+◌, ◌-◌, ◌/◌, ◌^◌, nat_le, max, if◌then◌else◌, List, [], ◌∷◌, ◌++◌, length, replicate, Option, Some, None}
use Rattle.std.specs.Int.{to_le_bytes, w64}
use Rattle.std.specs.List.{flat_map}
use Rattle.sa_arena.specs.Extents.{Extent, Region, prefix_size, cursor_of}

-- a capacity as one byte, or as a word of eight with the lowest first
unfoldable pub prefix_bytes : ℕ → List ℕ
prefix_bytes capacity = if nat_le capacity 255 then capacity ∷ [] else to_le_bytes w64 capacity

-- a text, and zeros up to a capacity
abbrev pub padded : ℕ → List ℕ → List ℕ
padded capacity text = text ++ replicate (capacity - length text) 0

-- the bytes of an extent: prefix, text and zeros; zeros throughout where it is dead
abbrev pub image_with : ℕ → Option (List ℕ) → List ℕ
image_with capacity None = replicate (prefix_size capacity + capacity) 0
image_with capacity (Some text) = prefix_bytes capacity ++ padded capacity text

abbrev pub extent_image : Extent → List ℕ
extent_image e = image_with e.capacity e.text

-- the bytes of all extents
abbrev pub image_of : List Extent → List ℕ
image_of es = flat_map extent_image es

-- the most bytes that an arena is asked to make room for at once
abbrev pub most_asked : ℕ
most_asked = 2 ^ 40

-- The size of an arena's buffer after room for so many more bytes was asked for: as before where they are spare; else what is needed, and at least a quarter more than before.
abbrev pub grown_size : Region → ℕ → ℕ
grown_size r bytes = if nat_le (cursor_of r.extents + bytes) r.size then r.size else max (cursor_of r.extents + bytes) (r.size + r.size / 4)
