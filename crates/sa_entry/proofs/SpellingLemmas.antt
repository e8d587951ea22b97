-- A slot's spelling reads as that slot again.
use Rattle.std.proofs.Common.{◌≡◌, ◌≤◌, ◌<◌, ◌+◌, ◌-◌, ◌^◌, ℕ, suc, Bool, true, false, List, [], ◌∷◌, ◌++◌, length, take, replicate, get_or, refl, sym, ap, ap₂, subst, ◌∙◌, arith, append_assoc, length-append, drop, set}
use Rattle.std.specs.Int.{from_le_bytes, w64, byte_at}
use Rattle.std.specs.List.{AllByRecursion}
use Rattle.std.proofs.lemmas.List.{get_or_at, take_at, set_at, drop-replicate, replicate_more, length-replicate}
use Rattle.std.proofs.lemmas.Nat.{from_le_bytes-to_le_bytes_8}
use Rattle.std.proofs.lemmas.Bool.{le-leb}
use Rattle.sa_entry.specs.Slots.{Slot, Fresh, Inline, InArena, Outside, Missing, IsSlot, IsOuterSize, spelling, size_bytes, form_of, HasFormSizes}
use Rattle.sa_entry.specs.Readings.{slot_of, slot_by, IsSpelling}

-- a size of at most 65,536 has no eighth byte
top_byte-size : (size : ℕ) → size ≤ 65536 → byte_at 7 size ≡ 0
top_byte-size size small = omega arith

size_in-spelling : (size : ℕ) → size ≤ 65536 → from_le_bytes w64 (size_bytes size ++ 0 ∷ []) ≡ size
size_in-spelling size small =
    sym (ap (λ (top : ℕ). from_le_bytes w64 (size_bytes size ++ top ∷ [])) (top_byte-size size small))
    ∙ from_le_bytes-to_le_bytes_8 size (omega arith)

slot_by-inline : (flags n : ℕ) (bytes : List ℕ) → flags ≡ 0x60 + n → n < 16 → slot_by flags bytes ≡ Inline (take n bytes)
slot_by-inline flags n bytes e h =
    let low = le-leb 0x60 flags (omega arith) in
    let high = le-leb flags 0x6f (omega arith) in
    let same : flags - 0x60 ≡ n = omega arith in
    rw (low, high, same) refl

slot_of-inline : (bytes : List ℕ) → length bytes < 16 → slot_of (spelling (Inline bytes)) ≡ Inline bytes
slot_of-inline bytes h =
    let n = length bytes in
    let zeros : List ℕ = replicate (15 - n) 0 in
    let last : get_or (spelling (Inline bytes)) 15 0 ≡ 0x60 + n =
    rw (← append_assoc bytes zeros ((0x60 + n) ∷ []))
    (get_or_at (bytes ++ zeros) (0x60 + n) [] 0 15 (omega (arith, length-append bytes zeros, length-replicate {A = ℕ} (15 - n) 0))) in
    slot_by-inline (get_or (spelling (Inline bytes)) 15 0) n (spelling (Inline bytes)) last h
    ∙ ap Inline (take_at bytes (zeros ++ (0x60 + n) ∷ []) n refl)

-- a text written over zero bytes, and its size over the last of them, is its spelling
pub spelling-inline : (text copied : List ℕ) → length text < 16 → copied ≡ text → spelling (Inline text) ≡ set (copied ++ drop (length text) (replicate 16 0)) 15 (0x60 + length text)
spelling-inline text copied h e =
    let n = length text in
    let zeros : List ℕ = replicate (15 - n) 0 in
    let more : zeros ++ 0 ∷ [] ≡ replicate (16 - n) 0 = replicate_more {X = ℕ} (15 - n) 0 ∙ ap (λ (k : ℕ). replicate k 0) (omega arith) in
    let front : copied ++ drop n (replicate 16 0) ≡ (text ++ zeros) ++ 0 ∷ [] =
    ap₂ (λ (a b : List ℕ). a ++ b) e (drop-replicate {X = ℕ} n 16 0 ∙ sym more) ∙ sym (append_assoc text zeros (0 ∷ [])) in
    let size : length (text ++ zeros) ≡ 15 = omega (arith, length-append text zeros, length-replicate {A = ℕ} (15 - n) 0) in
    sym (ap (λ (l : List ℕ). set l 15 (0x60 + n)) front ∙ set_at {A = ℕ} (text ++ zeros) 0 [] (0x60 + n) 15 size ∙ append_assoc text zeros ((0x60 + n) ∷ []))

-- bytes at each place are bytes all through
pub all-bytes : (bytes : List ℕ) → ((i : ℕ) → get_or bytes i 0 < 256) → AllByRecursion (λ (b : ℕ). b < 256) bytes
all-bytes [] f = tt
all-bytes (b ∷ bytes) f = (f 0, all-bytes bytes (λ i. f (suc i)))

-- what a slot in the arena may hold, at either flag
pub IsSlot-arena : (at size : ℕ) (long : Bool) → at < 2 ^ 64 → IsOuterSize size → (long ≡ false → size ≤ 255) → IsSlot (InArena at size long)
IsSlot-arena at size true a s short = (a, s)
IsSlot-arena at size false a s short = let h : size ≤ 255 = short refl in (a, s, omega arith)

pub slot_of-spelling : (slot : Slot) → IsSlot slot → slot_of (spelling slot) ≡ slot
slot_of-spelling Fresh h = refl
slot_of-spelling (Inline bytes) h = slot_of-inline bytes h.0
slot_of-spelling (InArena at size true) h =
    ap₂ (λ (a s : ℕ). InArena a s true) (from_le_bytes-to_le_bytes_8 at h.0) (size_in-spelling size h.1.1)
slot_of-spelling (InArena at size false) h =
    ap₂ (λ (a s : ℕ). InArena a s false) (from_le_bytes-to_le_bytes_8 at h.0) (size_in-spelling size h.1.1)
slot_of-spelling (Outside key size) h =
    ap₂ Outside (from_le_bytes-to_le_bytes_8 key h.0) (size_in-spelling size h.1.1)
slot_of-spelling Missing h = refl

-- bytes that spell a slot read as it
pub slot_of-spelled : (slot : Slot) (bytes : List ℕ) → IsSlot slot → spelling slot ≡ bytes → slot_of bytes ≡ slot
slot_of-spelled slot bytes h e = sym (ap slot_of e) ∙ slot_of-spelling slot h

pub IsSpelling-spelled : (slot : Slot) (bytes : List ℕ) → IsSlot slot → spelling slot ≡ bytes → IsSpelling bytes
IsSpelling-spelled slot bytes h e =
    let same : slot_of bytes ≡ slot = slot_of-spelled slot bytes h e in
    record { spelled = ap spelling same ∙ e; slot = subst IsSlot (sym same) h }

-- what a slot may hold gives the sizes of its form
pub sizes-form : (slot : Slot) → IsSlot slot → HasFormSizes (form_of slot)
sizes-form Fresh h = tt
sizes-form (Inline bytes) h = h.0
sizes-form (InArena at size true) h = (h.1, λ e. let never : true ≡ false = e in cc)
sizes-form (InArena at size false) h = (h.1, λ e. h.2)
sizes-form (Outside key size) h = h.1
sizes-form Missing h = tt
