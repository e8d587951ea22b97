-- What contracts see of a store. Source: this project.
use Rattle.std.specs.Prelude.{◌≡◌, ℕ, List, [], length, sum, map, count_by, replicate, Option}
use Rattle.sa_entry.specs.Slots.{Slot}
use Rattle.sa_entry.specs.Slots as slot
use Rattle.sa_arena.specs.Extents.{Region}
use Rattle.sa_outside.specs.Keyed.{is_used, used_count}
use Rattle.sa_alloc.specs.Layouts.{Layout, IsSound, opening_layout, one_if}
use Rattle.sa_alloc.specs.Transitions.{storage}
use Rattle.sa_alloc.specs.Consistency.{IsSmall, is_at_key, is_outside, state_of}

-- what a store holds: its layout, the slot of each entry, and the bytes or nothing at each key of the texts outside
pub record Contents : Type 0 where
  pub layout : Layout
  pub slots : List Slot
  pub texts : List (Option (List ℕ))

-- the room of a store: the bytes of the arena's buffer, and how many texts can be put outside with no memory
pub record Room : Type 0 where
  pub size : ℕ
  pub spare : ℕ

-- a store: what it holds, and its room
pub record StoreValue : Type 0 where
  pub contents : Contents
  pub room : Room

-- the arena of a store: its extents with the code points of their texts, and the bytes of its buffer
abbrev pub region_of : StoreValue → Region
region_of s = record { extents = s.contents.layout.extents; size = s.room.size }

-- what a new store holds: fresh entries
abbrev pub opening_contents : List ℕ → Contents
opening_contents lengths = record { layout = opening_layout lengths; slots = replicate (sum lengths) slot.Fresh; texts = [] }

-- What every store keeps. Its layout is sound, with an entry for each place of the arrays, which are within the limits; each key in use is named by exactly one slot, and no other key is; and the state of each entry is the one that its slot says.
pub record IsSoundStore (c : Contents) : Type 0 where
  pub layout : IsSound c.layout
  pub entries : length c.layout.states ≡ sum c.layout.lengths
  pub small : IsSmall c.layout.lengths
  pub keyed : (key : ℕ) → count_by (is_at_key key) c.slots ≡ one_if (is_used c.texts key)
  pub outside : count_by is_outside c.slots ≡ used_count c.texts
  pub states : c.layout.states ≡ map (state_of (storage c.layout.extents c.texts)) c.slots
