-- How the parts of a store make its layout, and what every store keeps. Source: this project.
use Rattle.std.specs.Prelude.{◌≡◌, ℕ, ◌<◌, ◌≤◌, ◌==◌, nat_lt, Bool, true, false, List, [], length, map, sum, count_by, slice_index_or, Option, option_map, is_some, unwrap_or, IsUtf8}
use Rattle.std.specs.Str.{chars}
use Rattle.sa_entry.specs.Slots.{Slot, Fresh, Inline, InArena, Outside, Missing, least_outer, most_short, IsOuterSize}
use Rattle.sa_arena.specs.Extents.{Extent, text_bytes, extent_at, has_text, is_live, number_at, trimmed}
use Rattle.sa_outside.specs.Keyed.{bytes_at, is_used, used_count}
use Rattle.sa_alloc.specs.Layouts as layouts
use Rattle.sa_alloc.specs.Layouts.{EntryState, Layout, IsSound, one_if}
use Rattle.sa_alloc.specs.Transitions.{Storage}

-- the bytes under a key; none where it is not in use
abbrev pub text_under : List (Option (List ℕ)) → ℕ → List ℕ
text_under texts key = unwrap_or (bytes_at texts key) []

-- the state of an entry, by what its slot says
abbrev pub state_of : Storage → Slot → EntryState
state_of t Fresh = layouts.Fresh
state_of t (Inline bytes) = layouts.Inline (chars bytes)
state_of t (InArena at size long) = layouts.InArena (number_at t.extents at)
state_of t (Outside key size) = layouts.Outside (chars (text_under t.texts key))
state_of t Missing = layouts.Missing

-- an extent with the code points of its text
abbrev pub decoded : Extent → Extent
decoded e = record { capacity = e.capacity; text = option_map chars e.text }

-- the layout of a store, by its parts
abbrev pub layout_from : List ℕ → Storage → List Slot → Layout
layout_from lengths t slots = record { lengths = lengths; extents = map decoded t.extents; states = map (state_of t) slots }

-- bytes that stand outside a slot
pub record IsOuter (bytes : List ℕ) : Type 0 where
  pub utf8 : IsUtf8 bytes
  pub size : IsOuterSize (length bytes)

-- an extent has the bytes of a text, which fit into it
pub record HoldsText (e : Extent) : Type 0 where
  pub outer : IsOuter (text_bytes e)
  pub room : length (text_bytes e) ≤ e.capacity

-- a slot that names an extent has its text's size, and says whether its prefix is long
pub record NamesExtent (e : Extent) (size : ℕ) (long : Bool) : Type 0 where
  pub live : has_text e ≡ true
  pub sized : length (text_bytes e) ≡ size
  pub prefix : nat_lt most_short e.capacity ≡ long

-- a slot that names a key has the size of the bytes there
pub record NamesBytes (bytes : Option (List ℕ)) (size : ℕ) : Type 0 where
  pub used : is_some bytes ≡ true
  pub sized : length (unwrap_or bytes []) ≡ size

-- what a slot says is so
abbrev pub IsTrueOfSlot : Storage → Slot → Type 0
IsTrueOfSlot t (Inline bytes) = IsUtf8 bytes × (length bytes < least_outer)
IsTrueOfSlot t (InArena at size long) = NamesExtent (extent_at t.extents (number_at t.extents at)) size long
IsTrueOfSlot t (Outside key size) = NamesBytes (bytes_at t.texts key) size
IsTrueOfSlot t other = Unit {0}

-- the slot of an entry; fresh where there is none
abbrev pub slot_at : List Slot → ℕ → Slot
slot_at slots entry = slice_index_or slots entry Fresh

-- the slot names this key
abbrev pub is_at_key : ℕ → Slot → Bool
is_at_key key (Outside other size) = other == key
is_at_key key other = false

abbrev pub is_outside : Slot → Bool
is_outside (Outside key size) = true
is_outside other = false

-- each live extent holds a text, and so does each key in use; the last extent is live
pub record HoldsTexts (t : Storage) : Type 0 where
  pub held : (k : ℕ) → is_live t.extents k ≡ true → HoldsText (extent_at t.extents k)
  pub kept : (key : ℕ) → is_used t.texts key ≡ true → IsOuter (text_under t.texts key)
  pub trim : trimmed t.extents ≡ t.extents

-- Every store keeps: each live extent is named by exactly one entry, and each key in use too; what a slot says is so; texts are UTF-8 and fit where they lie; and there are as many slots as the arrays have entries.
pub record IsConsistent (lengths : List ℕ) (t : Storage) (slots : List Slot) : Type 0 where
  pub sound : IsSound (layout_from lengths t slots)
  pub keyed : (key : ℕ) → count_by (is_at_key key) slots ≡ one_if (is_used t.texts key)
  pub outside : count_by is_outside slots ≡ used_count t.texts
  pub each : (entry : ℕ) → entry < length slots → IsTrueOfSlot t (slot_at slots entry)
  pub holds : HoldsTexts t
  pub entries : length slots ≡ sum lengths

-- the numbers of the arrays' first entries
abbrev pub AreStarts : List ℕ → List ℕ → Type 0
AreStarts lengths starts = (length starts ≡ length lengths) × ((array : ℕ) → array < length lengths → slice_index_or starts array 0 ≡ layouts.first_entry lengths array)

-- the limits of a store
pub record IsSmall (lengths : List ℕ) : Type 0 where
  pub arrays : length lengths ≤ 64
  pub entries : sum lengths ≤ 8192

-- all of it
pub record IsStore (lengths starts : List ℕ) (t : Storage) (slots : List Slot) : Type 0 where
  pub consistent : IsConsistent lengths t slots
  pub starts_are : AreStarts lengths starts
  pub small : IsSmall lengths

-- a slot with 0 in place of a key
abbrev pub without_key : Slot → Slot
without_key (Outside key size) = Outside 0 size
without_key other = other

-- a slot that names a key has a size that stands outside a slot
abbrev pub IsSized : Slot → Type 0
IsSized (Outside key size) = IsOuterSize size
IsSized other = Unit {0}
