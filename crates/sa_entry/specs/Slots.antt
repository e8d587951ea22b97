-- What an entry is, and the sixteen bytes that spell it. Source: the packed string of NumPy's StringDType (NEP 55); which flags stand for which state is this project's own.
use Rattle.std.specs.Prelude.{ℕ, ◌≡◌, ◌+◌, ◌-◌, ◌^◌, ◌<◌, ◌≤◌, Bool, true, false, if◌then◌else◌, List, [], ◌∷◌, ◌++◌, length, take, replicate, Option, Some}
use Rattle.std.specs.Int.{to_le_bytes, w64}
use Rattle.std.specs.List.{AllByRecursion}
use Rattle.sa_entry.specs.declared.form.Form.{Form}
use Rattle.sa_entry.specs.declared.form.Form.TheVariants as form

-- An entry: fresh; inline with its text's bytes; in the arena, with the offset of the text's first byte, the text's size, and whether its prefix is long; outside, with its key and the text's size; or missing.
pub data Slot : Type 0 where
  Fresh : Slot
  Inline : List ℕ → Slot
  InArena : ℕ → ℕ → Bool → Slot
  Outside : ℕ → ℕ → Slot
  Missing : Slot

-- the fewest bytes of a text that does not stand in its slot, and the most of any text
abbrev pub least_outer : ℕ
least_outer = 16

abbrev pub most_outer : ℕ
most_outer = 65536

-- the most bytes of a text in the arena behind a prefix of one byte
abbrev pub most_short : ℕ
most_short = 255

-- a size that a text in the arena or outside has
abbrev pub IsOuterSize : ℕ → Type 0
IsOuterSize size = (least_outer ≤ size) × (size ≤ most_outer)

-- what a slot may hold: a text of at most 15 bytes inline; words of 64 bits; a size of 16 to 65,536, and of at most 255 behind a short prefix
abbrev pub IsSlot : Slot → Type 0
IsSlot Fresh = Unit {0}
IsSlot (Inline bytes) = (length bytes < least_outer) × AllByRecursion (λ (b : ℕ). b < 256) bytes
IsSlot (InArena at size true) = (at < 2 ^ 64) × IsOuterSize size
IsSlot (InArena at size false) = (at < 2 ^ 64) × IsOuterSize size × (size ≤ most_short)
IsSlot (Outside key size) = (key < 2 ^ 64) × IsOuterSize size
IsSlot Missing = Unit {0}

-- a number as a word of eight bytes, the lowest first
abbrev pub word : ℕ → List ℕ
word n = to_le_bytes w64 n

-- the low seven bytes of a size
abbrev pub size_bytes : ℕ → List ℕ
size_bytes size = take 7 (word size)

-- the last byte of an entry in the arena: initialized, and long where its prefix is
abbrev pub arena_flags : Bool → ℕ
arena_flags long = if long then 0x50 else 0x40

-- the sixteen bytes of a slot: two words, the highest byte of the second for flags
abbrev pub spelling : Slot → List ℕ
spelling Fresh = replicate 16 0
spelling (Inline bytes) = bytes ++ (replicate (15 - length bytes) 0 ++ (0x60 + length bytes) ∷ [])
spelling (InArena at size long) = word at ++ (size_bytes size ++ arena_flags long ∷ [])
spelling (Outside key size) = word key ++ (size_bytes size ++ 0x70 ∷ [])
spelling Missing = replicate 15 0 ++ 0xc0 ∷ []

-- the form of a slot
abbrev pub form_of : Slot → Form
form_of Fresh = form.Fresh
form_of (Inline bytes) = form.Inline (length bytes)
form_of (InArena at size long) = form.Arena at size long
form_of (Outside key size) = form.Outside key size
form_of Missing = form.Missing

-- the sizes that a form may have: at most 15 bytes inside the slot; 16 to 65,536 elsewhere, and at most 255 behind a short prefix
abbrev pub HasFormSizes : Form → Type 0
HasFormSizes form.Fresh = Unit {0}
HasFormSizes (form.Inline size) = size < least_outer
HasFormSizes (form.Arena at size long) = IsOuterSize size × (long ≡ false → size ≤ most_short)
HasFormSizes (form.Outside key size) = IsOuterSize size
HasFormSizes form.Missing = Unit {0}

-- how many bytes the text of a slot has: none where the slot is fresh or missing
abbrev pub slot_size : Slot → ℕ
slot_size (Inline bytes) = length bytes
slot_size (InArena at size long) = size
slot_size (Outside key size) = size
slot_size Fresh = 0
slot_size Missing = 0

-- the text stands inside the slot
abbrev pub is_inside : Slot → Bool
is_inside Fresh = true
is_inside (Inline bytes) = true
is_inside (InArena at size long) = false
is_inside (Outside key size) = false
is_inside Missing = false

-- the bytes of the text inside the slot: a fresh entry reads as the empty text
abbrev pub inside_bytes : Slot → List ℕ
inside_bytes Fresh = []
inside_bytes (Inline bytes) = bytes
inside_bytes (InArena at size long) = []
inside_bytes (Outside key size) = []
inside_bytes Missing = []

-- a reading of bytes gives each slot whose spelling they are
abbrev pub IsReading : List ℕ → Option Slot → Type 0
IsReading bytes read = (slot : Slot) → IsSlot slot → spelling slot ≡ bytes → read ≡ Some slot
