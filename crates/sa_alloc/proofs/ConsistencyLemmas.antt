-- A put over the parts of a store is the put of its layout, and keeps what every store keeps.
use Rattle.std.proofs.Common.{◌≡◌, ◌≤◌, ◌<◌, ◌≢◌, ◌+◌, ℕ, Bool, true, false, List, [], ◌∷◌, ◌++◌, length, map, Option, None, unwrap_or, refl, sym, ap, ◌∙◌, subst, inl, inr, arith, set, length-set, get_or-set_other, get_or-set_same}
use Rattle.std.specs.Str.{chars}
use Rattle.std.proofs.lemmas.Bool.{eq-eqb}
use Rattle.std.proofs.lemmas.Bool.Decides.{eqb_tells}
use Rattle.std.proofs.lemmas.List.{length-map}
use Rattle.std.proofs.Math.ListN.{get_or-map}
use Rattle.sa_text.specs.declared.value.Value.{Value}
use Rattle.sa_entry.specs.Slots.{Slot, Fresh, InArena, Outside}
use Rattle.sa_arena.specs.Extents.{Extent, extent_at, is_live, number_at, with_text, trimmed, has_text}
use Rattle.sa_arena.proofs.ExtentLemmas.{live-below, trimmed-extent_at, number_at-append, number_at-with_text, number_at-trimmed, extent_at-append, extent_at-with_text_other}
use Rattle.sa_outside.specs.Keyed.{bytes_at, is_used, used_count}
use Rattle.sa_alloc.specs.Layouts as layouts
use Rattle.sa_alloc.specs.Layouts.{Layout, EntryState, Incoming, incoming, extents_after, state_after, state_at, put_within, put, IsSound, is_in, one_if}
use Rattle.sa_alloc.specs.Transitions.{Storage}
use Rattle.sa_alloc.specs.Consistency.{state_of, decoded, layout_from, IsOuter, HoldsText, NamesExtent, NamesBytes, IsTrueOfSlot, slot_at, is_at_key, is_outside, IsConsistent, text_under}
use Rattle.sa_alloc.proofs.LayoutLemmas.{counts_two, count-set, map-set_but, AllLive, put-within, within-sound}

pub state_at-from : (t : Storage) (ss : List Slot) (i : ℕ) → state_at (map (state_of t) ss) i ≡ state_of t (slot_at ss i)
state_at-from t ss i = get_or-map (state_of t) ss i Fresh

-- what a change of one extent leaves alone

pub record NearExtents (es es' : List Extent) (k : ℕ) : Type 0 where
  pub numbers : (at : ℕ) → is_live es (number_at es at) ≡ true → number_at es at ≢ k → number_at es' at ≡ number_at es at
  pub extents : (n : ℕ) → is_live es n ≡ true → n ≢ k → extent_at es' n ≡ extent_at es n

pub near-same : (es : List Extent) (k : ℕ) → NearExtents es es k
near-same es k = record { numbers = λ at live ne. refl; extents = λ n live ne. refl }

pub near-push : (es : List Extent) (e : Extent) → NearExtents es (es ++ e ∷ []) (length es)
near-push es e = record {
  numbers = λ at live ne. number_at-append es (e ∷ []) at (live-below es (number_at es at) live);
  extents = λ n live ne. extent_at-append es (e ∷ []) n (live-below es n live);
}

pub near-with_text : (es : List Extent) (k : ℕ) (t : Option (List ℕ)) → NearExtents es (with_text es k t) k
near-with_text es k t = record {
  numbers = λ at live ne. number_at-with_text es k t at;
  extents = λ n live ne. extent_at-with_text_other es k n t ne;
}

pub near-killed : (es : List Extent) (k : ℕ) → NearExtents es (trimmed (with_text es k None)) k
near-killed es k = record {
  numbers = λ at live ne.
      let after = number_at-with_text es k None at in
      let same = extent_at-with_text_other es k (number_at es at) None ne in
      let alive : is_live (with_text es k None) (number_at (with_text es k None) at) ≡ true = ap (is_live (with_text es k None)) after ∙ ap has_text same ∙ live in
      number_at-trimmed (with_text es k None) at alive ∙ after;
  extents = λ n live ne.
      let same = extent_at-with_text_other es k n None ne in
      trimmed-extent_at (with_text es k None) n (ap has_text same ∙ live) ∙ same;
}

-- a change of the extents, of which an entry in this state named one at most
pub record MovesExtents (es : List Extent) (old : EntryState) (es' : List Extent) : Type 0 where
  pub number : ℕ
  pub near : NearExtents es es' number
  pub named : is_live es number ≡ true → is_in number old ≡ true
  pub held : AllLive HoldsText es'
  pub trim : trimmed es' ≡ es'

abbrev pub AllKept : List (Option (List ℕ)) → Type 0
AllKept ks = (key : ℕ) → is_used ks key ≡ true → IsOuter (text_under ks key)

-- a change of the texts outside, of which the old slot and the new one name one at most
pub record MovesTexts (ks : List (Option (List ℕ))) (old : Slot) (ks' : List (Option (List ℕ))) (new : Slot) : Type 0 where
  pub key : ℕ
  pub apart : (other : ℕ) → other ≢ key → bytes_at ks' other ≡ bytes_at ks other
  pub at_key : is_used ks key ≡ true → is_at_key key old ≡ true
  pub keys : (other : ℕ) → one_if (is_used ks' other) + one_if (is_at_key other old) ≡ one_if (is_used ks other) + one_if (is_at_key other new)
  pub count : used_count ks' + one_if (is_outside old) ≡ used_count ks + one_if (is_outside new)
  pub kept : AllKept ks'

-- one put over the parts of a store, and what the layout shows of it
pub record Moves (t : Storage) (old : Slot) (b : Incoming) (t' : Storage) (new : Slot) : Type 0 where
  pub arena : MovesExtents t.extents (state_of t old) t'.extents
  pub outside : MovesTexts t.texts old t'.texts new
  pub extents : map decoded t'.extents ≡ trimmed (extents_after (map decoded t.extents) (state_of t old) b)
  pub state : state_of t' new ≡ state_after (map decoded t.extents) (state_of t old) b
  pub slot : IsTrueOfSlot t' new

one_if-most : (b : Bool) → one_if b ≤ 1
one_if-most true = omega arith
one_if-most false = omega arith

-- the other entries

record Stays (t t' : Storage) (s : Slot) : Type 0 where
  state : state_of t' s ≡ state_of t s
  slot : IsTrueOfSlot t' s

abbrev IsAway : Storage → ℕ → ℕ → Slot → Type 0
IsAway t number key (InArena at size long) = number_at t.extents at ≢ number
IsAway t number key (Outside other size) = other ≢ key
IsAway t number key s = Unit {0}

away-stays : (t t' : Storage) (number key : ℕ) (s : Slot) → NearExtents t.extents t'.extents number → ((other : ℕ) → other ≢ key → bytes_at t'.texts other ≡ bytes_at t.texts other) → IsTrueOfSlot t s → IsAway t number key s → Stays t t' s
away-stays t t' number key (InArena at size long) near apart told away =
    let n = near.numbers at told.live away in
    let e = ap (extent_at t'.extents) n ∙ near.extents (number_at t.extents at) told.live away in
    record { state = ap layouts.InArena n; slot = subst (λ x. NamesExtent x size long) (sym e) told }
away-stays t t' number key (Outside other size) near apart told away =
    let b = apart other away in
    record { state = ap (λ x. layouts.Outside (chars (unwrap_or x []))) b; slot = subst (λ x. NamesBytes x size) (sym b) told }
away-stays t t' number key s near apart told away = record { state = refl; slot = told }

pub record PutsOne (lengths : List ℕ) (t : Storage) (ss : List Slot) (i : ℕ) (v : Value) (t' : Storage) (new : Slot) : Type 0 where
  pub layout : layout_from lengths t' (set ss i new) ≡ put (layout_from lengths t ss) i v
  pub consistent : IsConsistent lengths t' (set ss i new)

module _ (lengths : List ℕ) (t : Storage) (ss : List Slot) (i : ℕ) (consistent : IsConsistent lengths t ss) (h : i < length ss) where
  -- two entries name no extent and no key in common
  is_away : (j number key : ℕ) → j < length ss → j ≢ i → (is_live t.extents number ≡ true → is_in number (state_of t (slot_at ss i)) ≡ true) → (is_used t.texts key ≡ true → is_at_key key (slot_at ss i) ≡ true) → IsAway t number key (slot_at ss j)
  is_away j number key hj ne named at_key = by_slot (slot_at ss j) refl (consistent.each j hj)
    where
      by_slot : (s : Slot) → slot_at ss j ≡ s → IsTrueOfSlot t s → IsAway t number key s
      by_slot (InArena at size long) e told = λ same.
          let live : is_live t.extents number ≡ true = ap (is_live t.extents) (sym same) ∙ told.live in
          let states = map (state_of t) ss in
          let len : length (map (state_of t) ss) ≡ length ss = length-map ss (state_of t) in
          let yes_i : is_in number (state_at states i) ≡ true = ap (is_in number) (state_at-from t ss i) ∙ named live in
          let yes_j : is_in number (state_at states j) ≡ true = ap (is_in number) (state_at-from t ss j ∙ ap (state_of t) e) ∙ eq-eqb (number_at t.extents at) number same in
          let two = counts_two (is_in number) states i j layouts.Fresh layouts.Fresh (omega arith) (omega arith) (λ q. ne (sym q)) refl yes_i yes_j in
          let count = consistent.sound.named number in
          let most = one_if-most (is_live (map decoded t.extents) number) in
          absurd (omega arith)
      by_slot (Outside other size) e told = λ same.
          let used : is_used t.texts key ≡ true = ap (is_used t.texts) (sym same) ∙ told.used in
          let yes_i = at_key used in
          let yes_j : is_at_key key (slot_at ss j) ≡ true = ap (is_at_key key) e ∙ eq-eqb other key same in
          let two = counts_two (is_at_key key) ss i j Fresh Fresh h hj (λ q. ne (sym q)) refl yes_i yes_j in
          let count = consistent.keyed key in
          let most = one_if-most (is_used t.texts key) in
          absurd (omega arith)
      by_slot s e told = tt

  pub moves-put : (v : Value) (t' : Storage) (new : Slot) → Moves t (slot_at ss i) (incoming v) t' new → PutsOne lengths t ss i v t' new
  moves-put v t' new moves =
      let l = layout_from lengths t ss in
      let old_is : state_at l.states i ≡ state_of t (slot_at ss i) = state_at-from t ss i in
      let stays : (j : ℕ) → j < length ss → j ≢ i → Stays t t' (slot_at ss j) =
      (λ j hj ne. away-stays t t' moves.arena.number moves.outside.key (slot_at ss j) moves.arena.near moves.outside.apart (consistent.each j hj) (is_away j moves.arena.number moves.outside.key hj ne moves.arena.named moves.outside.at_key)) in
      let extents : map decoded t'.extents ≡ trimmed (extents_after l.extents (state_at l.states i) (incoming v)) =
      moves.extents ∙ ap (λ s. trimmed (extents_after l.extents s (incoming v))) (sym old_is) in
      let states : map (state_of t') (set ss i new) ≡ set l.states i (state_after l.extents (state_at l.states i) (incoming v)) =
      map-set_but (state_of t) (state_of t') ss i new Fresh (λ j hj ne. (stays j hj ne).state)
      ∙ ap (set l.states i) (moves.state ∙ ap (λ s. state_after l.extents s (incoming v)) (sym old_is)) in
      let len : length (map (state_of t) ss) ≡ length ss = length-map ss (state_of t) in
      let layout : layout_from lengths t' (set ss i new) ≡ put_within l i v =
      ap (λ xs. let x : Layout = record { lengths = lengths; extents = xs; states = map (state_of t') (set ss i new) } in x) extents
      ∙ ap (λ xs. let x : Layout = record { lengths = lengths; extents = trimmed (extents_after l.extents (state_at l.states i) (incoming v)); states = xs } in x) states in
      record {
        layout = layout ∙ sym (put-within l i v (omega arith));
        consistent = record {
          sound = subst IsSound (sym layout) (within-sound l i v consistent.sound (omega arith));
          keyed = λ key.
              let set_is = count-set (is_at_key key) ss i new Fresh h in
              let before = consistent.keyed key in
              let even = moves.outside.keys key in
              omega arith;
          outside =
              let set_is = count-set is_outside ss i new Fresh h in
              let before = consistent.outside in
              let even = moves.outside.count in
              omega arith;
          each = λ j hj. by_place j (let same = length-set ss i new in omega arith) stays (get_or-set_same ss i new Fresh h);
          holds = record { held = moves.arena.held; kept = moves.outside.kept; trim = moves.arena.trim };
          entries = length-set ss i new ∙ consistent.entries;
        };
      }
    where
      by_place : (j : ℕ) → j < length ss → ((k : ℕ) → k < length ss → k ≢ i → Stays t t' (slot_at ss k)) → slot_at (set ss i new) i ≡ new → IsTrueOfSlot t' (slot_at (set ss i new) j)
      by_place j hj stays at_i =
          elim (eqb_tells j i) [
            | inl w ↦ subst (IsTrueOfSlot t') (sym (ap (slot_at (set ss i new)) w.1 ∙ at_i)) moves.slot
            | inr w ↦ subst (IsTrueOfSlot t') (sym (get_or-set_other ss i j new Fresh w.1)) (stays j hj w.1).slot
          ]
