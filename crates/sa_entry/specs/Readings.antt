-- The slot that sixteen bytes read as. At bytes that spell no slot it is none that `IsSlot` allows, or one with another spelling.
use Rattle.std.specs.Prelude.{ℕ, ◌-◌, ◌==◌, ◌≡◌, true, false, if◌then◌else◌, List, [], ◌∷◌, ◌++◌, map, take, slice_index}
use Rattle.std.specs.Int.{from_le_bytes, w64, is_in_range}
use Rattle.sa_entry.specs.Slots.{Slot, Fresh, Inline, InArena, Outside, Missing, IsSlot, spelling}

-- the word in the first eight bytes
abbrev pub first_word : List ℕ → ℕ
first_word bytes = from_le_bytes w64 bytes

-- the size in the seven bytes behind it
abbrev pub size_in : List ℕ → ℕ
size_in bytes = from_le_bytes w64 (map (slice_index bytes) (8 ∷ 9 ∷ 10 ∷ 11 ∷ 12 ∷ 13 ∷ 14 ∷ []) ++ 0 ∷ [])

-- the slot behind these flags
abbrev pub slot_by : ℕ → List ℕ → Slot
slot_by flags bytes =
    if is_in_range 0x60 0x6f flags then Inline (take (flags - 0x60) bytes)
    else (if flags == 0x40 then InArena (first_word bytes) (size_in bytes) false
    else (if flags == 0x50 then InArena (first_word bytes) (size_in bytes) true
    else (if flags == 0x70 then Outside (first_word bytes) (size_in bytes)
    else (if flags == 0 then Fresh
    else (if flags == 0xc0 then Missing
    else Inline bytes)))))

abbrev pub slot_of : List ℕ → Slot
slot_of bytes = slot_by (slice_index bytes 15) bytes

-- the bytes are the spelling of the slot that they read as
pub record IsSpelling (bytes : List ℕ) : Type 0 where
  pub spelled : spelling (slot_of bytes) ≡ bytes
  pub slot : IsSlot (slot_of bytes)
