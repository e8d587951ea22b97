-- Laws of layouts: a put keeps one sound, and changes the value of its entry alone.
use Rattle.std.proofs.Common.{◌≡◌, ◌≤◌, ◌<◌, ◌≢◌, ◌+◌, nat_lt, ℕ, zero, suc, Bool, true, false, cond, List, [], ◌∷◌, ◌++◌, length, map, sum, count_by, Option, Some, None, is_some, unwrap_or, refl, sym, ap, ◌∙◌, inl, inr, arith, get_or, set, length-set, length-append, subst, get_or-set_other, if◌then◌else◌}
use Rattle.std.proofs.lemmas.Grind.{common_steps}
use Rattle.std.proofs.lemmas.Bool.{cases_Bool, cases_lt, eq-eqb, leb-true, lt-ltb, le-ltb}
use Rattle.std.proofs.lemmas.Bool.Decides.{eqb_tells}
use Rattle.std.proofs.lemmas.List.{length-map, set_past}
use Rattle.std.proofs.lemmas.List.Folds.{sum_by-replicate}
use Rattle.std.proofs.lemmas.List.Sums.{sum_by-set, get_or-le-sum_by}
use Rattle.std.proofs.Math.Dec.{eqb, eqb-suc-suc, eqb-suc-zero, eqb-zero-suc}
use Rattle.sa_text.specs.declared.value.Value.{Value}
use Rattle.sa_text.specs.declared.value.Value.TheVariants as value
use Rattle.sa_text.specs.Texts.{text_size}
use Rattle.sa_arena.specs.Extents.{Extent, extent_at, is_live, with_text, trimmed, has_text, extent_for, text_bytes}
use Rattle.sa_arena.proofs.ExtentLemmas.{live-below, trimmed-live, trimmed-extent_at, trimmed-twice, extent_at-end, extent_at-append, extent_at-with_text, extent_at-with_text_other}
use Rattle.sa_alloc.specs.Layouts.{Layout, EntryState, Fresh, InArena, Incoming, Nothing, Short, Outer, incoming, opening_layout, extents_after, state_after, state_at, put_within, put, IsSound, is_in, one_if, fits_in, values_of, value_in}

-- counts of members of a list

pub counts_member : {X : Type 0} (p : X → Bool) → (xs : List X) (i : ℕ) (d : X) → i < length xs → p (get_or xs i d) ≡ true → 1 ≤ count_by p xs
counts_member p xs i d h t =
    let at_least : one_if (p (get_or xs i d)) ≤ count_by p xs = get_or-le-sum_by (λ x. cond (p x) 1 0) xs i d h in
    let one : one_if (p (get_or xs i d)) ≡ 1 = rw t refl in
    omega arith

pub count-set : {X : Type 0} (p : X → Bool) → (xs : List X) (i : ℕ) (y d : X) → i < length xs → count_by p (set xs i y) + one_if (p (get_or xs i d)) ≡ count_by p xs + one_if (p y)
count-set p xs i y d h = sum_by-set (λ x. cond (p x) 1 0) xs i y d h

-- two members are counted as two
pub counts_two : {X : Type 0} (p : X → Bool) → (xs : List X) (i j : ℕ) (d blank : X) → i < length xs → j < length xs → i ≢ j → p blank ≡ false → p (get_or xs i d) ≡ true → p (get_or xs j d) ≡ true → 2 ≤ count_by p xs
counts_two p xs i j d blank hi hj ne is_no ti tj =
    let without = count-set p xs i blank d hi in
    let other : get_or (set xs i blank) j d ≡ get_or xs j d = get_or-set_other xs i j blank d (λ e. ne (sym e)) in
    let len = length-set xs i blank in
    let there = counts_member p (set xs i blank) j d (omega arith) (ap p other ∙ tj) in
    let yes : one_if (p (get_or xs i d)) ≡ 1 = rw ti refl in
    let zero_is : one_if (p blank) ≡ 0 = rw is_no refl in
    omega arith

-- two functions that agree on each member
pub map-same : {A B : Type 0} (f g : A → B) → (xs : List A) (d : A) → ((j : ℕ) → j < length xs → g (get_or xs j d) ≡ f (get_or xs j d)) → map g xs ≡ map f xs
map-same f g [] d same = refl
map-same f g (y ∷ ys) d same =
    let first : g y ≡ f y = same 0 (omega arith) in
    ap (λ z. z ∷ map g ys) first ∙ ap (λ zs. f y ∷ zs) (map-same f g ys d (λ j h. same (suc j) (omega arith)))

-- a list where one member is replaced, and where each other looks the same by another function
pub map-set_but : {A B : Type 0} (f g : A → B) → (xs : List A) (i : ℕ) (x d : A) → ((j : ℕ) → j < length xs → j ≢ i → g (get_or xs j d) ≡ f (get_or xs j d)) → map g (set xs i x) ≡ set (map f xs) i (g x)
map-set_but f g [] i x d same = refl
map-set_but f g (y ∷ ys) zero x d same = ap (λ zs. g x ∷ zs) (map-same f g ys d (λ j h. same (suc j) (omega arith) (λ e. absurd (omega arith))))
map-set_but f g (y ∷ ys) (suc i) x d same =
    let first : g y ≡ f y = same 0 (omega arith) (λ e. absurd (omega arith)) in
    ap (λ z. z ∷ map g (set ys i x)) first ∙ ap (λ zs. f y ∷ zs) (map-set_but f g ys i x d (λ j h ne. same (suc j) (omega arith) (λ e. ne (omega arith))))

-- which extents are live after a change

pub live-push : (es : List Extent) (e : Extent) (k : ℕ) → has_text e ≡ true → one_if (is_live (es ++ e ∷ []) k) ≡ one_if (is_live es k) + one_if (eqb (length es) k)
live-push [] e zero t = rw t refl
live-push [] e (suc k) t = rw (eqb-zero-suc k) refl
live-push (x ∷ es) e zero t = rw (eqb-suc-zero (length es)) (omega arith)
live-push (x ∷ es) e (suc k) t = live-push es e k t ∙ ap (λ b. one_if (is_live es k) + one_if b) (sym (eqb-suc-suc (length es) k))

pub live-with_text : (es : List Extent) (j : ℕ) (t : Option (List ℕ)) (k : ℕ) → is_live es j ≡ true → one_if (is_live (with_text es j t) k) + one_if (eqb j k) ≡ one_if (is_live es k) + (if eqb j k then one_if (is_some t) else 0)
live-with_text es j t k live =
    elim (eqb_tells j k) [
      | inl w ↦
          let after : is_live (with_text es j t) k ≡ is_some t = ap (is_live (with_text es j t)) (sym w.1) ∙ ap has_text (extent_at-with_text es j t (live-below es j live)) in
          let before : is_live es k ≡ true = ap (is_live es) (sym w.1) ∙ live in
          rw (after, before, w.0) (omega arith)
      | inr w ↦
          let same : is_live (with_text es j t) k ≡ is_live es k = ap has_text (extent_at-with_text_other es j k t (λ e. w.1 (sym e))) in
          rw (same, w.0) refl
    ]

pub none_if : (b : Bool) → ◌≡◌ {A = ℕ} (if b then 0 else 0) 0
none_if true = refl
none_if false = refl

-- what holds of each live extent

abbrev pub AllLive : (Extent → Type 0) → List Extent → Type 0
AllLive P es = (k : ℕ) → is_live es k ≡ true → P (extent_at es k)

pub all_live-push : (P : Extent → Type 0) → (es : List Extent) (e : Extent) → P e → AllLive P es → AllLive P (es ++ e ∷ [])
all_live-push P es e new held k live =
    elim (cases_lt k (length es)) [
      | inl below ↦
          let same = extent_at-append es (e ∷ []) k below in
          subst P (sym same) (held k (sym (ap has_text same) ∙ live))
      | inr above ↦
          let below = live-below (es ++ e ∷ []) k live in
          let len = length-append es (e ∷ []) in
          let last : k ≡ length es = omega arith in
          subst P (sym (ap (extent_at (es ++ e ∷ [])) last ∙ extent_at-end es e)) new
    ]

pub all_live-with_text : (P : Extent → Type 0) → (es : List Extent) (k : ℕ) (t : Option (List ℕ)) → k < length es → (is_some t ≡ true → P (record { capacity = (extent_at es k).capacity; text = t })) → AllLive P es → AllLive P (with_text es k t)
all_live-with_text P es k t below new held n live =
    elim (eqb_tells n k) [
      | inl w ↦
          let here = ap (extent_at (with_text es k t)) w.1 ∙ extent_at-with_text es k t below in
          subst P (sym here) (new (sym (ap has_text here) ∙ live))
      | inr w ↦
          let same = extent_at-with_text_other es k n t w.1 in
          subst P (sym same) (held n (sym (ap has_text same) ∙ live))
    ]

pub all_live-trimmed : (P : Extent → Type 0) → (es : List Extent) → AllLive P es → AllLive P (trimmed es)
all_live-trimmed P es held n live =
    let alive : is_live es n ≡ true = sym (trimmed-live es n) ∙ live in
    subst P (sym (trimmed-extent_at es n alive)) (held n alive)

-- the extent that a state names is live
abbrev pub Named : List Extent → EntryState → Type 0
Named es (InArena k) = is_live es k ≡ true
Named es other = Unit {0}

pub named_at : (l : Layout) (i : ℕ) → IsSound l → i < length l.states → Named l.extents (state_at l.states i)
named_at l i sound h = by_state (state_at l.states i) refl
  where
    by_state : (s : EntryState) → state_at l.states i ≡ s → Named l.extents s
    by_state (InArena k) e =
        let here : is_in k (state_at l.states i) ≡ true = ap (is_in k) e ∙ grind (arith, common_steps) in
        let some = counts_member (is_in k) l.states i Fresh h here in
        let count = sound.named k in
        elim (cases_Bool (is_live l.extents k)) [
          | inl t ↦ t
          | inr f ↦ let none : one_if (is_live l.extents k) ≡ 0 = rw f refl in absurd (omega arith)
        ]
    by_state s e = tt

-- what a put adds to the live extents, it adds to the names
pub balance : (es : List Extent) (b : Incoming) (s : EntryState) (k : ℕ) → Named es s → one_if (is_live (extents_after es s b) k) + one_if (is_in k s) ≡ one_if (is_live es k) + one_if (is_in k (state_after es s b))
balance es (Outer t) Fresh k n = let push = live-push es (extent_for (text_size t) t) k refl in omega arith
balance es (Outer t) (InArena j) k n =
    elim (cases_Bool (fits_in es j t)) [
      | inl t_is ↦ let w = live-with_text es j (Some t) k n in rw t_is w
      | inr f_is ↦ let w = live-with_text es j None k n in let z = none_if (eqb j k) in rw f_is (omega arith)
    ]
balance es b (InArena j) k n = let w = live-with_text es j None k n in let z = none_if (eqb j k) in omega arith
balance es b s k n = refl

-- a live text fits into its extent

abbrev pub HasRoom : Extent → Type 0
HasRoom e = text_size (text_bytes e) ≤ e.capacity

pub room-after : (es : List Extent) (b : Incoming) (s : EntryState) → Named es s → AllLive HasRoom es → AllLive HasRoom (extents_after es s b)
room-after es (Outer t) Fresh n room = all_live-push HasRoom es (extent_for (text_size t) t) (omega arith) room
room-after es (Outer t) (InArena j) n room =
    let new : is_some (if fits_in es j t then Some t else None) ≡ true → text_size (unwrap_or (if fits_in es j t then Some t else None) []) ≤ (extent_at es j).capacity =
    elim (cases_Bool (fits_in es j t)) [ inl t_is ↦ rw t_is (λ _. leb-true (text_size t) (extent_at es j).capacity t_is) | inr f_is ↦ rw f_is (λ e. cc) ] in
    all_live-with_text HasRoom es j (if fits_in es j t then Some t else None) (live-below es j n) new room
room-after es b (InArena j) n room = all_live-with_text HasRoom es j None (live-below es j n) (λ e. cc) room
room-after es b s n room = room

-- a put into an entry that exists, and into none
pub put-within : (l : Layout) (i : ℕ) (v : Value) → i < length l.states → put l i v ≡ put_within l i v
put-within l i v h = let t_is = lt-ltb i (length l.states) h in rw t_is refl

pub put-past : (l : Layout) (i : ℕ) (v : Value) → length l.states ≤ i → put l i v ≡ l
put-past l i v h = let f_is = le-ltb i (length l.states) h in rw f_is refl

pub within-sound : (l : Layout) (i : ℕ) (v : Value) → IsSound l → i < length l.states → IsSound (put_within l i v)
within-sound l i v sound h = record {
  named = λ k.
      let b = incoming v in
      let s = state_at l.states i in
      let set_is = count-set (is_in k) l.states i (state_after l.extents s b) Fresh h in
      let even = balance l.extents b s k (named_at l i sound h) in
      let trim : one_if (is_live (trimmed (extents_after l.extents s b)) k) ≡ one_if (is_live (extents_after l.extents s b) k) = ap one_if (trimmed-live (extents_after l.extents s b) k) in
      let before = sound.named k in
      omega arith;
  room =
      let b = incoming v in
      let s = state_at l.states i in
      all_live-trimmed HasRoom (extents_after l.extents s b) (room-after l.extents b s (named_at l i sound h) sound.room);
  last = trimmed-twice (extents_after l.extents (state_at l.states i) (incoming v));
}

pub put-sound : (l : Layout) (i : ℕ) (v : Value) → IsSound l → IsSound (put l i v)
put-sound l i v sound =
    elim (cases_lt i (length l.states)) [
      | inl below ↦ subst IsSound (sym (put-within l i v below)) (within-sound l i v sound below)
      | inr past ↦ subst IsSound (sym (put-past l i v past)) sound
    ]

-- a put keeps the shape
pub put-lengths : (l : Layout) (i : ℕ) (v : Value) → (put l i v).lengths ≡ l.lengths
put-lengths l i v = elim (cases_Bool (nat_lt i (length l.states))) [ inl t_is ↦ rw t_is refl | inr f_is ↦ rw f_is refl ]

pub put-entries : (l : Layout) (i : ℕ) (v : Value) → length (put l i v).states ≡ length l.states
put-entries l i v =
    elim (cases_Bool (nat_lt i (length l.states))) [
      | inl t_is ↦ rw t_is (length-set l.states i (state_after l.extents (state_at l.states i) (incoming v)))
      | inr f_is ↦ rw f_is refl
    ]

pub opening-sound : (lengths : List ℕ) → IsSound (opening_layout lengths)
opening-sound lengths = record {
  named = λ k. sum_by-replicate (λ s. one_if (is_in k s)) (sum lengths) Fresh ∙ omega arith;
  room = λ k live. cc;
  last = refl;
}

-- the value of another entry stays

abbrev pub Apart : ℕ → EntryState → Type 0
Apart k (InArena j) = j ≢ k
Apart k other = Unit {0}

-- two states name no extent in common
abbrev pub Disjoint : EntryState → EntryState → Type 0
Disjoint (InArena k) t = Apart k t
Disjoint s t = Unit {0}

pub extent_at-after : (es : List Extent) (b : Incoming) (s : EntryState) (n : ℕ) → is_live es n ≡ true → Disjoint s (InArena n) → extent_at (extents_after es s b) n ≡ extent_at es n
extent_at-after es (Outer t) Fresh n live apart = extent_at-append es (extent_for (text_size t) t ∷ []) n (live-below es n live)
extent_at-after es b (InArena j) n live apart = extent_at-with_text_other es j n _ apart
extent_at-after es b s n live apart = refl

pub value-other : (es : List Extent) (s : EntryState) (b : Incoming) (t : EntryState) → Named es t → Disjoint s t → value_in (trimmed (extents_after es s b)) t ≡ value_in es t
value-other es s b (InArena n) named apart =
    let same = extent_at-after es b s n named apart in
    let live : is_live (extents_after es s b) n ≡ true = ap has_text same ∙ named in
    ap (λ e. value.Of (unwrap_or e.text [])) (trimmed-extent_at (extents_after es s b) n live ∙ same)
value-other es s b t named apart = refl

abbrev pub value_of : Incoming → Value
value_of Nothing = value.Missing
value_of (Short text) = value.Of text
value_of (Outer text) = value.Of text

pub value_of-incoming : (v : Value) → value_of (incoming v) ≡ v
value_of-incoming value.Missing = refl
value_of-incoming (value.Of text) =
    elim (cases_Bool (nat_lt (text_size text) 16)) [ inl t ↦ rw t refl | inr f ↦ rw f refl ]

pub value-put : (es : List Extent) (b : Incoming) (s : EntryState) → Named es s → value_in (trimmed (extents_after es s b)) (state_after es s b) ≡ value_of b
value-put es (Outer t) Fresh n =
    let here = extent_at-end es (extent_for (text_size t) t) in
    let live : is_live (es ++ extent_for (text_size t) t ∷ []) (length es) ≡ true = ap has_text here in
    ap (λ e. value.Of (unwrap_or e.text [])) (trimmed-extent_at (es ++ extent_for (text_size t) t ∷ []) (length es) live ∙ here)
value-put es (Outer t) (InArena j) n =
    elim (cases_Bool (fits_in es j t)) [
      | inl t_is ↦
          let here = extent_at-with_text es j (Some t) (live-below es j n) in
          let live : is_live (with_text es j (Some t)) j ≡ true = ap has_text here in
          rw t_is (ap (λ e. value.Of (unwrap_or e.text [])) (trimmed-extent_at (with_text es j (Some t)) j live ∙ here))
      | inr f_is ↦ rw f_is refl
    ]
value-put es b s n = refl

pub disjoint_at : (l : Layout) (i j : ℕ) → IsSound l → i < length l.states → j < length l.states → j ≢ i → Disjoint (state_at l.states i) (state_at l.states j)
disjoint_at l i j sound hi hj ne = by_states (state_at l.states i) (state_at l.states j) refl refl
  where
    by_states : (s t : EntryState) → state_at l.states i ≡ s → state_at l.states j ≡ t → Disjoint s t
    by_states (InArena k) (InArena n) e f = λ same.
        let yes_i : is_in k (state_at l.states i) ≡ true = ap (is_in k) e ∙ eq-eqb k k refl in
        let yes_j : is_in k (state_at l.states j) ≡ true = ap (is_in k) f ∙ eq-eqb n k same in
        let two = counts_two (is_in k) l.states i j Fresh Fresh hi hj (λ q. ne (sym q)) refl yes_i yes_j in
        let count = sound.named k in
        let most : one_if (is_live l.extents k) ≤ 1 = elim (cases_Bool (is_live l.extents k)) [ inl t ↦ rw t (omega arith) | inr g ↦ rw g (omega arith) ] in
        absurd (omega arith)
    by_states s t e f = tt

pub values-within : (l : Layout) (i : ℕ) (v : Value) → IsSound l → i < length l.states → values_of (put_within l i v) ≡ set (values_of l) i v
values-within l i v sound h =
    let b = incoming v in
    let s = state_at l.states i in
    let after = trimmed (extents_after l.extents s b) in
    map-set_but (value_in l.extents) (value_in after) l.states i (state_after l.extents s b) Fresh
    (λ j hj ne. value-other l.extents s b (state_at l.states j) (named_at l j sound hj) (disjoint_at l i j sound h hj ne))
    ∙ ap (set (values_of l) i) (value-put l.extents b s (named_at l i sound h) ∙ value_of-incoming v)

pub values-put : (l : Layout) (i : ℕ) (v : Value) → IsSound l → values_of (put l i v) ≡ set (values_of l) i v
values-put l i v sound =
    elim (cases_lt i (length l.states)) [
      | inl below ↦ ap values_of (put-within l i v below) ∙ values-within l i v sound below
      | inr past ↦
          let count = length-map l.states (value_in l.extents) in
          ap values_of (put-past l i v past) ∙ sym (set_past (values_of l) i v (omega arith))
    ]
