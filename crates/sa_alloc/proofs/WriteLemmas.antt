-- A plan that is being written, put by put.
use Rattle.std.proofs.Common.{◌≡◌, ◌≤◌, ◌<◌, ◌+◌, nat_lt, ℕ, List, [], ◌∷◌, length, Some, None, sym, ◌∙◌, subst, inl, inr, arith, if◌then◌else◌}
use Rattle.std.specs.List.{AllByRecursion}
use Rattle.std.proofs.lemmas.Bool.{cases_Bool}
use Rattle.sa_text.specs.declared.value.Value.{Value}
use Rattle.sa_arena.specs.Extents.{Extent, cursor_of, extent_for}
use Rattle.sa_text.specs.Texts.{text_size}
use Rattle.sa_arena.proofs.ExtentLemmas.{cursor-trimmed, cursor-append, cursor-cons, cursor-with_text}
use Rattle.sa_alloc.specs.Layouts.{Layout, EntryState, Fresh, InArena, Incoming, Outer, incoming, extents_after, state_at, fits_in, put, put_all}
use Rattle.sa_alloc.specs.Needs.{bytes_appended, keys_taken, bytes_needed, keys_needed}
use Rattle.sa_alloc.specs.StoreValues.{StoreValue}
use Rattle.sa_alloc.specs.Stores.{puts_from}

-- the puts that are left lead to the same layout, their entries exist, and there is room for them
pub record IsWriting (end : Layout) (size : ℕ) (now : StoreValue) (first : ℕ) (left : List (ℕ × Value)) : Type 0 where
  pub goes : put_all now.contents.layout (puts_from first left) ≡ end
  pub entries : AllByRecursion (λ (p : ℕ × Value). first + p.0 < length now.contents.slots) left
  pub bytes : cursor_of now.contents.layout.extents + bytes_needed now.contents.layout (puts_from first left) ≤ now.room.size
  pub keys : keys_needed now.contents.layout (puts_from first left) ≤ now.room.spare
  pub kept : now.room.size ≡ size

pub cursor-after : (es : List Extent) (b : Incoming) (s : EntryState) → cursor_of (extents_after es s b) ≤ cursor_of es + bytes_appended s b
cursor-after es (Outer t) Fresh = let a = cursor-append es (extent_for (text_size t) t ∷ []) in let b = cursor-cons (extent_for (text_size t) t) [] in omega arith
cursor-after es (Outer t) (InArena k) = let a = cursor-with_text es k (if fits_in es k t then Some t else None) in omega arith
cursor-after es b (InArena k) = let a = cursor-with_text es k None in omega arith
cursor-after es b s = omega arith

pub cursor-put : (l : Layout) (i : ℕ) (v : Value) → cursor_of (put l i v).extents ≤ cursor_of l.extents + bytes_appended (state_at l.states i) (incoming v)
cursor-put l i v =
    let t = cursor-trimmed (extents_after l.extents (state_at l.states i) (incoming v)) in
    let a = cursor-after l.extents (incoming v) (state_at l.states i) in
    elim (cases_Bool (nat_lt i (length l.states))) [ inl t_is ↦ rw t_is (omega arith) | inr f_is ↦ rw f_is (omega arith) ]

-- one put more
pub writes-on : (end : Layout) (size : ℕ) (now after : StoreValue) (first : ℕ) (p : ℕ × Value) (ps : List (ℕ × Value)) → IsWriting end size now first (p ∷ ps)
    → after.contents.layout ≡ put now.contents.layout (first + p.0) p.1 → length after.contents.slots ≡ length now.contents.slots → after.room.size ≡ now.room.size
    → now.room.spare ≤ after.room.spare + keys_taken now.contents.layout.extents (state_at now.contents.layout.states (first + p.0)) (incoming p.1)
    → IsWriting end size after first ps
writes-on end size now after first p ps w layout slots same spare =
    let next = put now.contents.layout (first + p.0) p.1 in
    let cursor = cursor-put now.contents.layout (first + p.0) p.1 in
    let bytes = w.bytes in
    let keys = w.keys in
    let entries = subst (λ k. AllByRecursion (λ (q : ℕ × Value). first + q.0 < k) ps) (sym slots) w.entries.1 in
    let it : IsWriting end size (record { contents = record { layout = next; slots = after.contents.slots; texts = after.contents.texts }; room = after.room }) first ps =
    record { goes = w.goes; entries = entries; bytes = omega arith; keys = omega arith; kept = same ∙ w.kept } in
    subst (λ l. IsWriting end size (record { contents = record { layout = l; slots = after.contents.slots; texts = after.contents.texts }; room = after.room }) first ps) (sym layout) it
