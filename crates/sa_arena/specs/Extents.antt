-- The extents of an arena in order of creation, and where each lies: this project's own layout. The texts are lists of any numbers: bytes in the arena, code points in a layout.
use Rattle.std.specs.Prelude.{ℕ, suc, ◌+◌, ◌-◌, ◌==◌, nat_le, Bool, if◌then◌else◌, List, [], ◌∷◌, length, take, sum_by, slice_index_or, slice_set, Option, Some, None, is_some, unwrap_or, ◌≤◌}

-- the fewest and the most bytes of a text in the arena: a shorter one stands in its entry, and no text is longer
abbrev pub least_text : ℕ
least_text = 16

abbrev pub most_text : ℕ
most_text = 65536

abbrev pub IsTextSize : ℕ → Type 0
IsTextSize size = (least_text ≤ size) × (size ≤ most_text)

-- an extent: the most bytes that its text may have, and its text; without one it is dead
pub record Extent : Type 0 where
  pub capacity : ℕ
  pub text : Option (List ℕ)

-- an arena: its extents, and the bytes of its buffer; what is not the extents' is spare
pub record Region : Type 0 where
  pub extents : List Extent
  pub size : ℕ

-- the text of an extent; a dead one has none
abbrev pub text_bytes : Extent → List ℕ
text_bytes e = unwrap_or e.text []

-- the bytes of the prefix in front of a text: one, or a word of eight where one does not hold the capacity
unfoldable pub prefix_size : ℕ → ℕ
prefix_size capacity = if nat_le capacity 255 then 1 else 8

-- the bytes of an extent: its prefix and its capacity
abbrev pub extent_size : Extent → ℕ
extent_size e = prefix_size e.capacity + e.capacity

-- the bytes of all extents together
abbrev pub cursor_of : List Extent → ℕ
cursor_of es = sum_by extent_size es

abbrev pub has_text : Extent → Bool
has_text e = is_some e.text

-- the bytes of the live extents together, and of the dead ones, prefixes included
abbrev pub live_size : Extent → ℕ
live_size e = if has_text e then extent_size e else 0

abbrev pub dead_size : Extent → ℕ
dead_size e = if has_text e then 0 else extent_size e

abbrev pub live_bytes : List Extent → ℕ
live_bytes es = sum_by live_size es

abbrev pub dead_bytes : List Extent → ℕ
dead_bytes es = sum_by dead_size es

-- the extent of a number; a dead one without bytes where there is none
abbrev pub extent_at : List Extent → ℕ → Extent
extent_at es k = slice_index_or es k (record { capacity = 0; text = None })

-- the extent of a number is live
abbrev pub is_live : List Extent → ℕ → Bool
is_live es k = has_text (extent_at es k)

-- where an extent begins: behind those before it
abbrev pub start_of : List Extent → ℕ → ℕ
start_of es k = cursor_of (take k es)

-- the offset of an extent's text: behind its prefix
abbrev pub offset_of : List Extent → ℕ → ℕ
offset_of es k = start_of es k + prefix_size (extent_at es k).capacity

-- the number of the extent whose text has this offset, or how many extents there are
abbrev pub number_at : List Extent → ℕ → ℕ
number_at [] at = 0
number_at (e ∷ es) at = if prefix_size e.capacity == at then 0 else suc (number_at es (at - extent_size e))

-- the extents with this text, or none, in the place of one's
abbrev pub with_text : List Extent → ℕ → Option (List ℕ) → List Extent
with_text es k text = slice_set es k (record { capacity = (extent_at es k).capacity; text = text })

-- a new live extent of a text of this many bytes, with room for it alone
abbrev pub extent_for : ℕ → List ℕ → Extent
extent_for size text = record { capacity = size; text = Some text }

-- the extents without the dead ones at their end
abbrev pub front_of : Extent → List Extent → List Extent
front_of e [] = if has_text e then e ∷ [] else []
front_of e (x ∷ xs) = e ∷ x ∷ xs

abbrev pub trimmed : List Extent → List Extent
trimmed [] = []
trimmed (e ∷ es) = front_of e (trimmed es)
