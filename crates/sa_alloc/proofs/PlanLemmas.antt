-- What a plan reserves is enough for its puts.
use Rattle.std.proofs.Common.{◌≡◌, ◌≤◌, ◌<◌, ◌≢◌, ◌+◌, nat_le, nat_lt, max, ◌/◌, ℕ, zero, suc, true, false, List, [], ◌∷◌, ◌++◌, length, map, take, refl, sym, ap, ◌∙◌, subst, inl, inr, arith, get_or, get_or-set_other, if◌then◌else◌}
use Rattle.std.specs.List.{AllByRecursion, IsDistinct, zip, list_any, sum_by}
use Rattle.std.proofs.lemmas.Bool.{cases_Bool, leb-true}
use Rattle.std.proofs.lemmas.Bool.Decides.{eqb_tells}
use Rattle.std.proofs.lemmas.List.Sums.{sum_by-cons}
use Rattle.std.proofs.lemmas.Map.Steps.{length-le_from_distinct_below}
use Rattle.std.proofs.Math.Dec.{eqb}
use Rattle.sa_text.specs.declared.value.Value.{Value}
use Rattle.sa_entry.specs.Slots.{Slot, Fresh, InArena, form_of}
use Rattle.sa_arena.specs.Extents.{Extent, Region, number_at, cursor_of}
use Rattle.sa_arena.specs.Images.{grown_size}
use Rattle.sa_alloc.specs.declared.needs.Needs.{Needs}
use Rattle.sa_alloc.specs.declared.store.Store.TheInside.{Inside}
use Rattle.sa_alloc.specs.Layouts as layouts
use Rattle.sa_alloc.specs.Layouts.{Layout, EntryState, Incoming, Outer, incoming, state_at, fits_in, put}
use Rattle.sa_alloc.specs.Needs.{bytes_appended, keys_taken, bytes_needed, keys_needed, needs_of, put_needs, bytes_most, keys_most}
use Rattle.sa_alloc.specs.StoreValues.{StoreValue, Contents, region_of}
use Rattle.sa_alloc.specs.Stores.{AreDistinct, HasRoom, puts_from}
use Rattle.sa_alloc.specs.Transitions.{Storage}
use Rattle.sa_alloc.specs.Consistency.{state_of, slot_at, layout_from}
use Rattle.sa_alloc.proofs.ConsistencyLemmas.{state_at-from}
use Rattle.sa_alloc.proofs.StoreLemmas.{parts, store_value}

-- puts of different entries

abbrev pub AwayFrom : ℕ → List (ℕ × Value) → Type 0
AwayFrom i ps = AllByRecursion (λ (q : ℕ × Value). q.0 ≢ i) ps

abbrev pub AllApart : List (ℕ × Value) → Type 0
AllApart [] = Unit {0}
AllApart (p ∷ ps) = AwayFrom p.0 ps × AllApart ps

-- what a put needs, by the state of its entry, is no more than this
pub record NeedsMost (s : EntryState) (b : Incoming) (n : Needs) : Type 0 where
  pub bytes : bytes_appended s b ≡ n.bytes
  pub keys : (es : List Extent) → keys_taken es s b ≤ n.keys

bytes-form : (t : Storage) (b : Incoming) (s : Slot) → bytes_appended (state_of t s) b ≡ (needs_of (form_of s) b).bytes
bytes-form t (Outer text) Fresh = refl
bytes-form t (Outer text) s = refl
bytes-form t b s = refl

keys-form : (t : Storage) (es : List Extent) (b : Incoming) (s : Slot) → keys_taken es (state_of t s) b ≤ (needs_of (form_of s) b).keys
keys-form t es (Outer text) (InArena at size long) = elim (cases_Bool (fits_in es (number_at t.extents at) text)) [ inl t_is ↦ rw t_is (omega arith) | inr f_is ↦ rw f_is (omega arith) ]
keys-form t es (Outer text) s = omega arith
keys-form t es b s = omega arith

state-other : (l : Layout) (i : ℕ) (v : Value) (q : ℕ) → q ≢ i → state_at (put l i v).states q ≡ state_at l.states q
state-other l i v q ne =
    elim (cases_Bool (nat_lt i (length l.states))) [
      | inl t_is ↦ rw t_is (get_or-set_other l.states i q (layouts.state_after l.extents (state_at l.states i) (incoming v)) layouts.Fresh ne)
      | inr f_is ↦ rw f_is refl
    ]

abbrev pub AllNeedMost : List EntryState → (ℕ × Value → Needs) → List (ℕ × Value) → Type 0
AllNeedMost states n ps = AllByRecursion (λ (p : ℕ × Value). NeedsMost (state_at states p.0) (incoming p.1) (n p)) ps

need-kept : (l : Layout) (i : ℕ) (v : Value) (n : ℕ × Value → Needs) (ps : List (ℕ × Value)) → AwayFrom i ps → AllNeedMost l.states n ps → AllNeedMost (put l i v).states n ps
need-kept l i v n [] away all = tt
need-kept l i v n (p ∷ ps) away all = (subst (λ s. NeedsMost s (incoming p.1) (n p)) (sym (state-other l i v p.0 away.0)) all.0, need-kept l i v n ps away.1 all.1)

pub needs-all : (l : Layout) (n : ℕ × Value → Needs) (ps : List (ℕ × Value)) → AllApart ps → AllNeedMost l.states n ps → (bytes_needed l ps ≡ sum_by (λ p. (n p).bytes) ps) × (keys_needed l ps ≤ sum_by (λ p. (n p).keys) ps)
needs-all l n [] apart all = (refl, omega arith)
needs-all l n (p ∷ ps) apart all =
    let rest = needs-all (put l p.0 p.1) n ps apart.1 (need-kept l p.0 p.1 n ps apart.0 all.1) in
    let bytes = sum_by-cons (λ p. (n p).bytes) p ps in
    let keys = sum_by-cons (λ p. (n p).keys) p ps in
    let one_bytes = all.0.bytes in
    let one_keys = all.0.keys l.extents in
    let rest_bytes = rest.0 in
    let rest_keys = rest.1 in
    (omega arith, omega arith)

slots-need : (t : Storage) (ss : List Slot) (ps : List (ℕ × Value)) → AllNeedMost (map (state_of t) ss) (put_needs ss) ps
slots-need t ss [] = tt
slots-need t ss (p ∷ ps) =
    let it : NeedsMost (state_of t (slot_at ss p.0)) (incoming p.1) (put_needs ss p) = record { bytes = bytes-form t (incoming p.1) (slot_at ss p.0); keys = λ es. keys-form t es (incoming p.1) (slot_at ss p.0) } in
    (subst (λ s. NeedsMost s (incoming p.1) (put_needs ss p)) (sym (state_at-from t ss p.0)) it, slots-need t ss ps)

-- what the slots of a store tell of the needs of puts
abbrev pub TellNeeds : Contents → List (ℕ × Value) → Type 0
TellNeeds c ps = (bytes_needed c.layout ps ≡ bytes_most c.slots ps) × (keys_needed c.layout ps ≤ keys_most c.slots ps)

pub slots-tell : (s : Inside) (now : StoreValue) (ps : List (ℕ × Value)) → store_value s ≡ now → AllApart ps → TellNeeds now.contents ps
slots-tell s now ps e apart =
    subst (λ (n : StoreValue). TellNeeds n.contents ps) e (needs-all (layout_from s.lengths.items (parts s) s.entries.items) (put_needs s.entries.items) ps apart (slots-need (parts s) s.entries.items ps))

-- the puts of a plan

away-places : (first p : ℕ) (places : List ℕ) (values : List Value) → AllByRecursion (λ q. eqb p q ≡ false) places → AwayFrom (first + p) (puts_from first (zip places values))
away-places first p [] values away = tt
away-places first p (q ∷ places) [] away = tt
away-places first p (q ∷ places) (v ∷ values) away = (
  λ e. elim (eqb_tells p q) [
    | inl w ↦ let yes_is = w.0 in let no_is = away.0 in cc
    | inr w ↦ w.1 (omega arith)
  ],
  away-places first p places values away.1,
)

pub plan-apart : (first : ℕ) (places : List ℕ) (values : List Value) → AreDistinct places → AllApart (puts_from first (zip places values))
unfolding IsDistinct
plan-apart first [] values distinct = tt
plan-apart first (p ∷ places) [] distinct = tt
plan-apart first (p ∷ places) (v ∷ values) distinct = (away-places first p places values distinct.0, plan-apart first places values distinct.1)

pub zip-entries : (first limit : ℕ) (n : ℕ) (places : List ℕ) (values : List Value) → first + n ≤ limit → AllByRecursion (λ (p : ℕ). p < n) places → AllByRecursion (λ (p : ℕ × Value). first + p.0 < limit) (zip places values)
zip-entries first limit n [] values h all = tt
zip-entries first limit n (p ∷ places) [] h all = tt
zip-entries first limit n (p ∷ places) (v ∷ values) h all = ((let below = all.0 in omega arith), zip-entries first limit n places values h all.1)

pub zip-places : (n : ℕ) (places : List ℕ) (values : List Value) → AllByRecursion (λ (p : ℕ). p < n) places → AllByRecursion (λ (p : ℕ × Value). p.0 < n) (zip places values)
zip-places n [] values all = tt
zip-places n (p ∷ places) [] all = tt
zip-places n (p ∷ places) (v ∷ values) all = (all.0, zip-places n places values all.1)

member-below : (n : ℕ) (places : List ℕ) → AllByRecursion (λ (p : ℕ). p < n) places → (q : ℕ) → list_any (eqb q) places ≡ true → q < n
member-below n [] all q h = cc
member-below n (p ∷ places) all q h =
    elim (eqb_tells q p) [
      | inl w ↦ let below = all.0 in let e = w.1 in omega arith
      | inr w ↦ member-below n places all.1 q (rw w.0 at h)
    ]

-- distinct places below a number are no more than that
pub places-few : (n : ℕ) (places : List ℕ) → AreDistinct places → AllByRecursion (λ (p : ℕ). p < n) places → length places ≤ n
places-few n places distinct all = length-le_from_distinct_below places n distinct (member-below n places all)

-- copies, one more

pub zip-more : (places : List ℕ) (values : List Value) (k : ℕ) (v : Value) → k < length places → k < length values → zip (take (suc k) places) (take (suc k) values) ≡ zip (take k places) (take k values) ++ (get_or places k 0, get_or values k v) ∷ []
zip-more [] values k v h g = absurd (omega arith)
zip-more (p ∷ places) [] k v h g = absurd (omega arith)
zip-more (p ∷ places) (x ∷ values) zero v h g = refl
zip-more (p ∷ places) (x ∷ values) (suc k) v h g = ap (λ ps. (p, x) ∷ ps) (zip-more places values k v (omega arith) (omega arith))

-- the room that a plan made

abbrev grown : ℕ → ℕ → ℕ → ℕ
grown cursor size bytes = if nat_le (cursor + bytes) size then size else max (cursor + bytes) (size + size / 4)

grown-enough : (cursor size bytes : ℕ) → cursor + bytes ≤ grown cursor size bytes
grown-enough cursor size bytes =
    elim (cases_Bool (nat_le (cursor + bytes) size)) [
      | inl t_is ↦ rw t_is (leb-true (cursor + bytes) size t_is)
      | inr f_is ↦ rw f_is (omega arith)
    ]

-- what a plan made room for, of these puts
pub record IsReserved (old new : StoreValue) (puts : List (ℕ × Value)) : Type 0 where
  pub room : HasRoom new puts
  pub size : new.room.size ≡ grown_size (region_of old) (bytes_needed old.contents.layout puts)
  pub spare : keys_most old.contents.slots puts ≤ old.room.spare → new.room.spare ≡ old.room.spare

pub reserved : (old new : StoreValue) (r : Region) (puts : List (ℕ × Value)) (bytes keys : ℕ)
    → TellNeeds old.contents puts
    → bytes ≡ bytes_most old.contents.slots puts → keys ≡ keys_most old.contents.slots puts → new.contents ≡ old.contents
    → cursor_of r.extents ≡ cursor_of old.contents.layout.extents → r.size ≡ old.room.size → new.room.size ≡ grown_size r bytes
    → keys ≤ new.room.spare → (keys ≤ old.room.spare → new.room.spare ≡ old.room.spare) → IsReserved old new puts
reserved old new r puts bytes keys told bytes_is keys_is same cursor size_was size_is fits stays =
    let exact = bytes_is ∙ sym told.0 in
    let size : new.room.size ≡ grown_size (region_of old) (bytes_needed old.contents.layout puts) =
    size_is ∙ ap (λ n. grown n r.size bytes) cursor ∙ ap (λ n. grown (cursor_of old.contents.layout.extents) n bytes) size_was ∙ ap (grown (cursor_of old.contents.layout.extents) old.room.size) exact in
    let enough = grown-enough (cursor_of old.contents.layout.extents) old.room.size (bytes_needed old.contents.layout puts) in
    let most = told.1 in
    let room : HasRoom (record { contents = old.contents; room = new.room }) puts = record { bytes = omega arith; keys = omega arith } in
    record {
      room = subst (λ c. HasRoom (record { contents = c; room = new.room }) puts) (sym same) room;
      size = size;
      spare = λ h. stays (omega arith);
    }
