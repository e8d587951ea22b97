-- What the calls of a store owe, by what every store keeps.
use Rattle.std.proofs.Common.{◌≡◌, ◌<◌, ℕ, List, length, map, refl, sym, ap, ◌∙◌, subst, get_or, if◌then◌else◌}
use Rattle.std.proofs.lemmas.List.{get_or_default}
use Rattle.sa_text.specs.declared.value.Value.{Value}
use Rattle.sa_entry.specs.Slots.{Slot, Fresh, InArena, Outside, form_of}
use Rattle.sa_arena.specs.Extents.{number_at, cursor_of}
use Rattle.sa_alloc.specs.declared.store.Store.TheInside.{Inside}
use Rattle.sa_alloc.specs.Layouts.{Incoming, Outer, incoming, state_at}
use Rattle.sa_alloc.specs.Needs.{bytes_appended, keys_taken}
use Rattle.sa_alloc.specs.Transitions.{Storage, storage, Spelled, IsPresent, StepsStore, state_by}
use Rattle.sa_alloc.specs.Consistency.{state_of, decoded, IsTrueOfSlot, slot_at, IsStore, layout_from}
use Rattle.sa_alloc.specs.StoreValues.{StoreValue, Contents}
use Rattle.sa_alloc.proofs.DecodedLemmas.{decoded-fits, cursor-decoded}
use Rattle.sa_alloc.proofs.ConsistencyLemmas.{state_at-from, PutsOne, moves-put}
use Rattle.sa_alloc.proofs.TransitionLemmas.{step-moves}

-- the parts of a store, and what contracts see of it
abbrev pub parts : Inside → Storage
parts s = storage s.arena.extents s.outside.texts

abbrev pub contents_from : List ℕ → Storage → List Slot → Contents
contents_from lengths t ss = record { layout = layout_from lengths t ss; slots = ss; texts = t.texts }

abbrev pub stored : List ℕ → Storage → List Slot → ℕ → ℕ → StoreValue
stored lengths t ss size spare = record { contents = contents_from lengths t ss; room = record { size = size; spare = spare } }

abbrev pub store_value : Inside → StoreValue
store_value s = stored s.lengths.items (parts s) s.entries.items s.arena.size s.outside.spare

abbrev pub Keeps : Inside → Type 0
Keeps s = IsStore s.lengths.items s.starts.items (parts s) s.entries.items

slot-present : (t : Storage) (s : Slot) → IsTrueOfSlot t s → IsPresent t (form_of s)
slot-present t (InArena at size long) told = (told.live, told.prefix)
slot-present t (Outside key size) told = told.used
slot-present t s told = tt

bytes-state : (t : Storage) (b : Incoming) (s : Slot) → bytes_appended (state_by t.extents (form_of s)) b ≡ bytes_appended (state_of t s) b
bytes-state t (Outer text) Fresh = refl
bytes-state t (Outer text) s = refl
bytes-state t b s = refl

keys-state : (t : Storage) (b : Incoming) (s : Slot) → keys_taken t.extents (state_by t.extents (form_of s)) b ≡ keys_taken (map decoded t.extents) (state_of t s) b
keys-state t (Outer text) (InArena at size long) = ap (λ b. if b then 0 else 1) (sym (decoded-fits t.extents (number_at t.extents at) text))
keys-state t (Outer text) s = refl
keys-state t b s = refl

module _ (s : Inside) (now : StoreValue) (e : store_value s ≡ now) where
  pub cursor-now : cursor_of s.arena.extents ≡ cursor_of now.contents.layout.extents
  cursor-now = sym (cursor-decoded s.arena.extents) ∙ ap (λ (x : StoreValue). cursor_of x.contents.layout.extents) e

  pub size-now : s.arena.size ≡ now.room.size
  size-now = ap (λ (x : StoreValue). x.room.size) e

  pub spare-now : s.outside.spare ≡ now.room.spare
  spare-now = ap (λ (x : StoreValue). x.room.spare) e

-- the slot of an entry that was read
module _ (s : Inside) (now : StoreValue) (e : store_value s ≡ now) (keeps : Keeps s) (i : ℕ) (slot : Slot) (h : i < length now.contents.slots) (read : slot ≡ get_or s.entries.items i slot) where
  pub entry-below : i < length s.entries.items
  entry-below = subst (λ (x : StoreValue). i < length x.contents.slots) (sym e) h

  pub slot-is : slot ≡ slot_at s.entries.items i
  slot-is = read ∙ get_or_default s.entries.items i slot Fresh entry-below

  pub slot-told : IsTrueOfSlot (parts s) slot
  slot-told = subst (IsTrueOfSlot (parts s)) (sym slot-is) (keeps.consistent.each i entry-below)

  pub present-now : IsPresent (parts s) (form_of slot)
  present-now = slot-present (parts s) slot slot-told

  pub state-now : state_at now.contents.layout.states i ≡ state_of (parts s) slot
  state-now = ap (λ (x : StoreValue). state_at x.contents.layout.states i) (sym e) ∙ state_at-from (parts s) s.entries.items i ∙ ap (state_of (parts s)) (sym slot-is)

  pub bytes-now : (b : Incoming) → bytes_appended (state_by s.arena.extents (form_of slot)) b ≡ bytes_appended (state_at now.contents.layout.states i) b
  bytes-now b = bytes-state (parts s) b slot ∙ ap (λ x. bytes_appended x b) (sym state-now)

  pub keys-now : (b : Incoming) → keys_taken s.arena.extents (state_by s.arena.extents (form_of slot)) b ≡ keys_taken now.contents.layout.extents (state_at now.contents.layout.states i) b
  keys-now b = keys-state (parts s) b slot ∙ ap (λ x. keys_taken (map decoded s.arena.extents) x b) (sym state-now) ∙ ap (λ (x : StoreValue). keys_taken x.contents.layout.extents (state_at now.contents.layout.states i) b) e

  -- a step on the entry
  pub step-puts : (v : Value) (t' : Storage) (new : Slot) → Spelled v → StepsStore (parts s) (form_of slot) (incoming v) t' new → PutsOne s.lengths.items (parts s) s.entries.items i v t' new
  step-puts v t' new spelled steps =
      let told = keeps.consistent.each i entry-below in
      let there = subst (λ x. StepsStore (parts s) (form_of x) (incoming v) t' new) slot-is steps in
      moves-put s.lengths.items (parts s) s.entries.items i keeps.consistent entry-below v t' new (step-moves (parts s) keeps.consistent.holds t' (slot_at s.entries.items i) v new told spelled there)
