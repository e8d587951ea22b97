-- The layout of one descriptor: where the text of each entry lies. Source: NEP 55; the table of transitions is this project's own.
use Rattle.std.specs.Prelude.{◌≡◌, ◌≤◌, ℕ, ◌==◌, nat_lt, nat_le, Bool, true, false, if◌then◌else◌, List, [], ◌∷◌, ◌++◌, length, map, take, sum, count_by, replicate, slice_index_or, slice_set, Some, None, option_map, encode_utf8_all}
use Rattle.std.specs.List.{range_with_len}
use Rattle.sa_base.specs.declared.stats.Stats.{Stats}
use Rattle.sa_text.specs.Texts.{text_size}
use Rattle.sa_text.specs.declared.value.Value.{Value}
use Rattle.sa_text.specs.declared.value.Value.TheVariants as value
use Rattle.sa_entry.specs.Slots.{Slot, spelling}
use Rattle.sa_entry.specs.Slots as slot
use Rattle.sa_arena.specs.Extents.{Extent, text_bytes, extent_for, extent_at, is_live, offset_of, with_text, trimmed, cursor_of, live_bytes, dead_bytes}
use Rattle.sa_arena.specs.Images.{image_of}

-- The state of an entry: fresh; a text inside its slot; a text in the extent of this number; a text outside the arena; or missing.
pub data EntryState : Type 0 where
  Fresh : EntryState
  Inline : List ℕ → EntryState
  InArena : ℕ → EntryState
  Outside : List ℕ → EntryState
  Missing : EntryState

-- A layout: the lengths of the arrays, the extents in order of creation with the code points of their texts, and the states of the entries, array by array.
pub record Layout : Type 0 where
  pub lengths : List ℕ
  pub extents : List Extent
  pub states : List EntryState

-- the layout before the first put
abbrev pub opening_layout : List ℕ → Layout
opening_layout lengths = record { lengths = lengths; extents = []; states = replicate (sum lengths) Fresh }

-- the number of an array's first entry: the entries of the arrays before it
abbrev pub first_entry : List ℕ → ℕ → ℕ
first_entry lengths array = sum (take array lengths)

-- the state of an entry; fresh where there is none
abbrev pub state_at : List EntryState → ℕ → EntryState
state_at states entry = slice_index_or states entry Fresh

-- what comes in by a put: a missing value, a text that fits into a slot, or a longer one
pub data Incoming : Type 0 where
  Nothing : Incoming
  Short : List ℕ → Incoming
  Outer : List ℕ → Incoming

abbrev pub incoming : Value → Incoming
incoming value.Missing = Nothing
incoming (value.Of text) = if nat_lt (text_size text) slot.least_outer then Short text else Outer text

-- the text fits into the extent of a number
abbrev pub fits_in : List Extent → ℕ → List ℕ → Bool
fits_in extents k text = nat_le (text_size text) (extent_at extents k).capacity

-- The extents after a put, by the old state of its entry and what comes in: a fresh entry's long text is appended, a long text that fits takes the place of its entry's text, and the extent of an entry that leaves it dies.
abbrev pub extents_after : List Extent → EntryState → Incoming → List Extent
extents_after extents Fresh (Outer text) = extents ++ extent_for (text_size text) text ∷ []
extents_after extents (InArena k) (Outer text) = with_text extents k (if fits_in extents k text then Some text else None)
extents_after extents (InArena k) new = with_text extents k None
extents_after extents old new = extents

-- the state of the entry after it
abbrev pub state_after : List Extent → EntryState → Incoming → EntryState
state_after extents old Nothing = Missing
state_after extents old (Short text) = Inline text
state_after extents Fresh (Outer text) = InArena (length extents)
state_after extents (InArena k) (Outer text) = if fits_in extents k text then InArena k else Outside text
state_after extents old (Outer text) = Outside text

-- the put of a value into an entry that exists, in its two parts: the first changes the extents by the table, the second removes the dead ones at the end
abbrev pub put_within : Layout → ℕ → Value → Layout
put_within l entry v = record {
  lengths = l.lengths;
  extents = trimmed (extents_after l.extents (state_at l.states entry) (incoming v));
  states = slice_set l.states entry (state_after l.extents (state_at l.states entry) (incoming v));
}

-- The put of a value into an entry. Where there is no such entry nothing changes.
abbrev pub put : Layout → ℕ → Value → Layout
put l entry v = if nat_lt entry (length l.states) then put_within l entry v else l

-- puts one after another, each of an entry's number and a value
abbrev pub put_all : Layout → List (ℕ × Value) → Layout
put_all l [] = l
put_all l (p ∷ ps) = put_all (put l p.0 p.1) ps

-- the text of the extent of a number; the empty one where it is dead
abbrev pub text_in : List Extent → ℕ → List ℕ
text_in extents k = text_bytes (extent_at extents k)

-- the value that an entry of this state holds: a fresh one reads as the empty text
abbrev pub value_in : List Extent → EntryState → Value
value_in extents Fresh = value.Of []
value_in extents (Inline text) = value.Of text
value_in extents (InArena k) = value.Of (text_in extents k)
value_in extents (Outside text) = value.Of text
value_in extents Missing = value.Missing

abbrev pub value_at : Layout → ℕ → Value
value_at l entry = value_in l.extents (state_at l.states entry)

-- the values of all entries
abbrev pub values_of : Layout → List Value
values_of l = map (value_in l.extents) l.states

-- the entry names the extent of a number
abbrev pub is_in : ℕ → EntryState → Bool
is_in k (InArena j) = j == k
is_in k other = false

abbrev pub is_out : EntryState → Bool
is_out (Outside text) = true
is_out other = false

abbrev pub one_if : Bool → ℕ
one_if b = if b then 1 else 0

-- Each live extent is named by exactly one entry, and no other number is named; a live text fits into its extent; and the last extent is live.
pub record IsSound (l : Layout) : Type 0 where
  pub named : (k : ℕ) → count_by (is_in k) l.states ≡ one_if (is_live l.extents k)
  pub room : (k : ℕ) → is_live l.extents k ≡ true → text_size (text_in l.extents k) ≤ (extent_at l.extents k).capacity
  pub last : trimmed l.extents ≡ l.extents

-- the statistics of a layout: bytes with prefixes, and how many texts are outside
abbrev pub stats_of : Layout → Stats
stats_of l = record { cursor = cursor_of l.extents; live = live_bytes l.extents; dead = dead_bytes l.extents; outside = count_by is_out l.states }

-- an extent with the UTF-8 of its text
abbrev pub encoded : Extent → Extent
encoded e = record { capacity = e.capacity; text = option_map encode_utf8_all e.text }

-- the bytes of the arena
abbrev pub arena_image : Layout → List ℕ
arena_image l = image_of (map encoded l.extents)

-- what the slot of an entry says, with 0 in place of the key of an outside text; the prefix is long by the extent's capacity
abbrev pub slot_of : List Extent → EntryState → Slot
slot_of extents Fresh = slot.Fresh
slot_of extents (Inline text) = slot.Inline (encode_utf8_all text)
slot_of extents (InArena k) = slot.InArena (offset_of extents k) (text_size (text_in extents k)) (nat_lt slot.most_short (extent_at extents k).capacity)
slot_of extents (Outside text) = slot.Outside 0 (text_size text)
slot_of extents Missing = slot.Missing

-- the sixteen bytes of an entry, with zeros in place of a key
abbrev pub entry_image : Layout → ℕ → List ℕ
entry_image l entry = spelling (slot_of l.extents (state_at l.states entry))

-- the slots of all entries, array by array
abbrev pub entry_images : Layout → List (List ℕ)
entry_images l = map (entry_image l) (range_with_len 0 (length l.states))
