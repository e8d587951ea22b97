-- Where the bytes of a text that is being made stand: this project's own layout.
use Rattle.std.specs.Prelude.{◌≡◌, ℕ, ◌≤◌, List, length, take, vec_capacity}
use Rattle.sa_text.specs.declared.place.TheConstants.{INSIDE_MOST}
use Rattle.sa_text.specs.declared.place.Place.{Place}
use Rattle.sa_text.specs.declared.place.Place.TheVariants.{Inside, Room}

-- the bytes so far, wherever they stand
abbrev pub bytes_of : Place → List ℕ
bytes_of (Inside few) = take few.filled few.bytes
bytes_of (Room bytes) = bytes.items

-- the place has room for so many bytes
abbrev pub HasRoom : Place → ℕ → Type 0
HasRoom (Inside few) size = (few.filled ≤ size) × (size ≤ INSIDE_MOST) × (length few.bytes ≡ INSIDE_MOST)
HasRoom (Room bytes) size = (length bytes.items ≤ size) × (size ≤ vec_capacity bytes)
