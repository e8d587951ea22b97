-- Each case of a step moves a store as the table of transitions says.
use Rattle.std.proofs.Common.{◌≡◌, ◌≤◌, ◌<◌, ◌≢◌, ◌+◌, nat_lt, nat_le, ℕ, zero, suc, Bool, true, false, List, [], ◌∷◌, ◌++◌, length, map, Option, Some, None, is_some, unwrap_or, encode_utf8_all, refl, sym, ap, ◌∙◌, subst, inl, inr, arith, if◌then◌else◌}
use Rattle.std.specs.Bool.{MatchBool}
use Rattle.std.specs.Str.{chars}
use Rattle.std.proofs.lemmas.Bool.{cases_Bool, eq-eqb, leb-true, ltb-true, ltb-false}
use Rattle.std.proofs.lemmas.Bool.Decides.{eqb_tells}
use Rattle.std.proofs.lemmas.List.{length-map}
use Rattle.std.proofs.Math.Dec.{eqb}
use Rattle.sa_text.specs.declared.value.Value.{Value}
use Rattle.sa_text.specs.declared.value.Value.TheVariants as value
use Rattle.sa_text.specs.Texts.{text_size}
use Rattle.sa_entry.specs.Slots.{Slot, Fresh, Inline, InArena, Outside, Missing, form_of}
use Rattle.sa_arena.specs.Extents.{Extent, prefix_size, cursor_of, extent_at, is_live, number_at, with_text, trimmed, extent_for}
use Rattle.sa_arena.proofs.ExtentLemmas.{live-below, trimmed-push, trimmed-with_text, trimmed-twice, number_at-with_text, number_at-end, extent_at-end, extent_at-with_text}
use Rattle.sa_outside.specs.Keyed.{bytes_at, is_used, Changes}
use Rattle.sa_alloc.specs.Layouts as layouts
use Rattle.sa_alloc.specs.Layouts.{EntryState, Incoming, Nothing, Short, Outer, incoming, extents_after, state_after, one_if, fits_in}
use Rattle.sa_alloc.specs.Transitions.{Storage, IsSpelled, Spelled, killed, FreesKey, SwapsKey, GainsKey, GoesOutside, ReleasesText, key_of, TakesText, StepsStore}
use Rattle.sa_alloc.specs.Consistency.{state_of, decoded, IsOuter, HoldsText, NamesExtent, NamesBytes, IsTrueOfSlot, HoldsTexts, is_at_key, is_outside}
use Rattle.sa_alloc.proofs.LayoutLemmas.{none_if, AllLive, all_live-push, all_live-with_text, all_live-trimmed}
use Rattle.sa_alloc.proofs.DecodedLemmas.{decoded-trim, decoded-killed, decoded-with_text, decoded-push, decoded-fits}
use Rattle.sa_alloc.proofs.ConsistencyLemmas.{near-same, near-push, near-with_text, near-killed, MovesExtents, AllKept, MovesTexts, Moves}

-- changes of the extents: none, one more, one that dies, one that is used again

none_live : (es : List Extent) → is_live es (length es) ≡ true → ⊥
none_live es live = let below = live-below es (length es) live in absurd (omega arith)

same-extents : (es : List Extent) (s : EntryState) → AllLive HoldsText es → trimmed es ≡ es → MovesExtents es s es
same-extents es s held trim = record { number = length es; near = near-same es (length es); named = λ live. absurd (none_live es live); held = held; trim = trim }

pushed-extents : (es : List Extent) (s : EntryState) (bytes : List ℕ) → IsOuter bytes → AllLive HoldsText es → MovesExtents es s (es ++ extent_for (length bytes) bytes ∷ [])
pushed-extents es s bytes outer held =
    let e : Extent = extent_for (length bytes) bytes in
    record {
      number = length es;
      near = near-push es e;
      named = λ live. absurd (none_live es live);
      held = all_live-push HoldsText es e (record { outer = outer; room = omega arith }) held;
      trim = trimmed-push es e refl;
    }

module _ (es : List Extent) (at : ℕ) (live : is_live es (number_at es at) ≡ true) (held : AllLive HoldsText es) where
  killed-extents : MovesExtents es (layouts.InArena (number_at es at)) (killed es at)
  killed-extents =
      let n = number_at es at in
      record {
        number = n;
        near = near-killed es n;
        named = λ _. eq-eqb n n refl;
        held = all_live-trimmed HoldsText (with_text es n None) (all_live-with_text HoldsText es n None (live-below es n live) (λ e. cc) held);
        trim = trimmed-twice (with_text es n None);
      }

  reused-extents : (bytes : List ℕ) → IsOuter bytes → length bytes ≤ (extent_at es (number_at es at)).capacity → trimmed es ≡ es → MovesExtents es (layouts.InArena (number_at es at)) (with_text es (number_at es at) (Some bytes))
  reused-extents bytes outer room trim =
      let n = number_at es at in
      let below = live-below es n live in
      record {
        number = n;
        near = near-with_text es n (Some bytes);
        named = λ _. eq-eqb n n refl;
        held = all_live-with_text HoldsText es n (Some bytes) below (λ _. record { outer = outer; room = room }) held;
        trim = trimmed-with_text es n bytes trim below;
      }

-- changes of the texts outside: none, one that is freed, one more, one that is replaced

-- a slot that names no key
abbrev IsKeyless : Slot → Type 0
IsKeyless (Outside key size) = ⊥
IsKeyless other = Unit {0}

keyless-at_key : (s : Slot) (key : ℕ) → IsKeyless s → one_if (is_at_key key s) ≡ 0
keyless-at_key (Outside other size) key p = absurd p
keyless-at_key s key p = refl

keyless-outside : (s : Slot) → IsKeyless s → one_if (is_outside s) ≡ 0
keyless-outside (Outside other size) p = absurd p
keyless-outside s p = refl

used-below : (ks : List (Option (List ℕ))) (key : ℕ) → is_used ks key ≡ true → key < length ks
used-below [] key h = cc
used-below (k ∷ ks) zero h = omega arith
used-below (k ∷ ks) (suc key) h = let again = used-below ks key h in omega arith

same-texts : (ks : List (Option (List ℕ))) (old new : Slot) → IsKeyless old → IsKeyless new → AllKept ks → MovesTexts ks old ks new
same-texts ks old new was is kept = record {
  key = length ks;
  apart = λ other ne. refl;
  at_key = λ used. let below = used-below ks (length ks) used in absurd (omega arith);
  keys = λ other. let a = keyless-at_key old other was in let b = keyless-at_key new other is in omega arith;
  count = let a = keyless-outside old was in let b = keyless-outside new is in omega arith;
  kept = kept;
}

kept-changed : (ks ks' : List (Option (List ℕ))) (key : ℕ) (b : Option (List ℕ)) → (is_some b ≡ true → IsOuter (unwrap_or b [])) → Changes ks ks' key b → AllKept ks → AllKept ks'
kept-changed ks ks' key b new changes kept other used =
    elim (eqb_tells other key) [
      | inl w ↦
          let b_is : bytes_at ks' other ≡ b = ap (bytes_at ks') w.1 ∙ changes.changed in
          subst (λ x. IsOuter (unwrap_or x [])) (sym b_is) (new (sym (ap is_some b_is) ∙ used))
      | inr w ↦
          let same = changes.others other w.1 in
          subst (λ x. IsOuter (unwrap_or x [])) (sym same) (kept other (sym (ap is_some same) ∙ used))
    ]

-- which keys are in use after one changes
changed-keys : (ks ks' : List (Option (List ℕ))) (key other : ℕ) (b : Option (List ℕ)) (was is : Bool) → is_used ks key ≡ was → is_some b ≡ is → Changes ks ks' key b
    → one_if (is_used ks' other) + (if eqb key other then one_if was else 0) ≡ one_if (is_used ks other) + (if eqb key other then one_if is else 0)
changed-keys ks ks' key other b was is was_is is_is changes =
    elim (eqb_tells key other) [
      | inl w ↦
          let after : is_used ks' other ≡ is = ap (is_used ks') (sym w.1) ∙ ap is_some changes.changed ∙ is_is in
          let before : is_used ks other ≡ was = ap (is_used ks) (sym w.1) ∙ was_is in
          rw (after, before, w.0) (omega arith)
      | inr w ↦
          let same : is_used ks' other ≡ is_used ks other = ap is_some (changes.others other (λ e. w.1 (sym e))) in
          rw (same, w.0) refl
    ]

module _ (ks ks' : List (Option (List ℕ))) (key : ℕ) (kept : AllKept ks) where
  freed-texts : (size : ℕ) (new : Slot) → is_used ks key ≡ true → FreesKey ks ks' key → IsKeyless new → MovesTexts ks (Outside key size) ks' new
  freed-texts size new used frees keyless = record {
    key = key;
    apart = frees.changes.others;
    at_key = λ _. eq-eqb key key refl;
    keys = λ other. let a = keyless-at_key new other keyless in let b = changed-keys ks ks' key other None true false used refl frees.changes in let z = none_if (eqb key other) in omega arith;
    count = let a = keyless-outside new keyless in let b = frees.count in omega arith;
    kept = kept-changed ks ks' key None (λ e. cc) frees.changes kept;
  }

  gained-texts : (old : Slot) (bytes : List ℕ) → IsKeyless old → IsOuter bytes → GainsKey ks ks' key bytes → MovesTexts ks old ks' (Outside key (length bytes))
  gained-texts old bytes keyless outer gains = record {
    key = key;
    apart = gains.changes.others;
    at_key = λ used. let was : is_used ks key ≡ false = ap is_some gains.vacant in absurd (cc);
    keys = λ other. let a = keyless-at_key old other keyless in let b = changed-keys ks ks' key other (Some bytes) false true (ap is_some gains.vacant) refl gains.changes in let z = none_if (eqb key other) in omega arith;
    count = let a = keyless-outside old keyless in let b = gains.count in omega arith;
    kept = kept-changed ks ks' key (Some bytes) (λ _. outer) gains.changes kept;
  }

  swapped-texts : (size : ℕ) (bytes : List ℕ) → is_used ks key ≡ true → IsOuter bytes → SwapsKey ks ks' key bytes → MovesTexts ks (Outside key size) ks' (Outside key (length bytes))
  swapped-texts size bytes used outer swaps = record {
    key = key;
    apart = swaps.changes.others;
    at_key = λ _. eq-eqb key key refl;
    keys = λ other. changed-keys ks ks' key other (Some bytes) true true used refl swaps.changes;
    count = let b = swaps.count in omega arith;
    kept = kept-changed ks ks' key (Some bytes) (λ _. outer) swaps.changes kept;
  }

-- a missing value or a text that fits into a slot: what its slot leaves in the layout

pub record Replaces (b : Incoming) (new : Slot) : Type 0 where
  pub keyless : IsKeyless new
  pub slot : (t : Storage) → IsTrueOfSlot t new
  pub state : (t : Storage) (es : List Extent) (s : EntryState) → state_of t new ≡ state_after es s b
  pub extents : (es : List Extent) (k : ℕ) → extents_after es (layouts.InArena k) b ≡ with_text es k None
  pub others : (es : List Extent) (s : EntryState) → ((k : ℕ) → s ≢ layouts.InArena k) → extents_after es s b ≡ es

missing-others : (es : List Extent) (s : EntryState) → ((k : ℕ) → s ≢ layouts.InArena k) → extents_after es s Nothing ≡ es
missing-others es (layouts.InArena k) ne = absurd (ne k refl)
missing-others es s ne = refl

short-others : (text : List ℕ) (es : List Extent) (s : EntryState) → ((k : ℕ) → s ≢ layouts.InArena k) → extents_after es s (Short text) ≡ es
short-others text es (layouts.InArena k) ne = absurd (ne k refl)
short-others text es s ne = refl

missing-replaces : Replaces Nothing Missing
missing-replaces = record { keyless = tt; slot = λ t. tt; state = λ t es s. refl; extents = λ es k. refl; others = missing-others }

inline-replaces : (text : List ℕ) → IsSpelled text → text_size text < 16 → Replaces (Short text) (Inline (encode_utf8_all text))
inline-replaces text spelled short = record {
  keyless = tt;
  slot = λ t. (spelled.utf8, short);
  state = λ t es s. ap layouts.Inline spelled.again;
  extents = λ es k. refl;
  others = short-others text;
}

at_true : (b : Bool) (P Q : Type 0) → b ≡ true → MatchBool b P Q → P
at_true true P Q e h = h
at_true false P Q e h = cc

at_false : (b : Bool) (P Q : Type 0) → b ≡ false → MatchBool b P Q → Q
at_false false P Q e h = h
at_false true P Q e h = cc

module _ (t : Storage) (holds : HoldsTexts t) (t' : Storage) where
  -- a slot without an extent gives up what it names
  released-else : (old : Slot) (b : Incoming) (new : Slot) → Replaces b new → ((k : ℕ) → state_of t old ≢ layouts.InArena k) → t'.extents ≡ t.extents → MovesTexts t.texts old t'.texts new → Moves t old b t' new
  released-else old b new r ne same texts = record {
    arena = subst (MovesExtents t.extents (state_of t old)) (sym same) (same-extents t.extents (state_of t old) holds.held holds.trim);
    outside = texts;
    extents = ap (map decoded) same ∙ sym (ap trimmed (r.others (map decoded t.extents) (state_of t old) ne) ∙ decoded-trim t.extents holds.trim);
    state = r.state t' (map decoded t.extents) (state_of t old);
    slot = r.slot t';
  }

  released-moves : (old : Slot) (b : Incoming) (new : Slot) → IsTrueOfSlot t old → Replaces b new → ReleasesText t (form_of old) t' → Moves t old b t' new
  released-moves (InArena at size long) b new told r h = record {
    arena = subst (MovesExtents t.extents (layouts.InArena (number_at t.extents at))) (sym h.0) (killed-extents t.extents at told.live holds.held);
    outside = subst (λ ks. MovesTexts t.texts (InArena at size long) ks new) (sym h.1) (same-texts t.texts (InArena at size long) new tt r.keyless holds.kept);
    extents = ap (map decoded) h.0 ∙ decoded-killed t.extents at ∙ sym (ap trimmed (r.extents (map decoded t.extents) (number_at t.extents at)));
    state = r.state t' (map decoded t.extents) (layouts.InArena (number_at t.extents at));
    slot = r.slot t';
  }
  released-moves (Outside key size) b new told r h =
      released-else (Outside key size) b new r (λ k e. cc) h.0 (freed-texts t.texts t'.texts key holds.kept size new told.used h.1 r.keyless)
  released-moves old b new told r h =
      released-else old b new r (λ k e. cc) h.0 (subst (λ ks. MovesTexts t.texts old ks new) (sym h.1) (same-texts t.texts old new tt r.keyless holds.kept))

  -- a text that does not fit into a slot comes in
  module _ (text : List ℕ) (spelled : IsSpelled text) (outer : IsOuter (encode_utf8_all text)) where
    -- the slot of a key that has the text's bytes
    at_key-state : (key size : ℕ) → bytes_at t'.texts key ≡ Some (encode_utf8_all text) → state_of t' (Outside key size) ≡ layouts.Outside text
    at_key-state key size there = ap (λ b. layouts.Outside (chars (unwrap_or b []))) there ∙ ap layouts.Outside spelled.again

    at_key-slot : (key : ℕ) → bytes_at t'.texts key ≡ Some (encode_utf8_all text) → NamesBytes (bytes_at t'.texts key) (text_size text)
    at_key-slot key there =
        let it : NamesBytes (Some (encode_utf8_all text)) (text_size text) = record { used = refl; sized = refl } in
        subst (λ b. NamesBytes b (text_size text)) (sym there) it

    taken-else : (old : Slot) (key : ℕ) → MovesExtents t.extents (state_of t old) t'.extents → MovesTexts t.texts old t'.texts (Outside key (text_size text)) → bytes_at t'.texts key ≡ Some (encode_utf8_all text)
        → map decoded t'.extents ≡ trimmed (extents_after (map decoded t.extents) (state_of t old) (Outer text)) → state_after (map decoded t.extents) (state_of t old) (Outer text) ≡ layouts.Outside text
        → Moves t old (Outer text) t' (Outside key (text_size text))
    taken-else old key arena texts there extents state = record { arena = arena; outside = texts; extents = extents; state = at_key-state key (text_size text) there ∙ sym state; slot = at_key-slot key there }

    same-arena : (s : EntryState) → t'.extents ≡ t.extents → MovesExtents t.extents s t'.extents
    same-arena s same = subst (MovesExtents t.extents s) (sym same) (same-extents t.extents s holds.held holds.trim)

    same-decoded : t'.extents ≡ t.extents → map decoded t'.extents ≡ trimmed (map decoded t.extents)
    same-decoded same = ap (map decoded) same ∙ sym (decoded-trim t.extents holds.trim)

    appended-moves : (new : Slot) → TakesText t (form_of Fresh) (encode_utf8_all text) t' new → Moves t Fresh (Outer text) t' new
    appended-moves new h =
        let e : Extent = extent_for (text_size text) (encode_utf8_all text) in
        let at = cursor_of t.extents + prefix_size (text_size text) in
        let long = nat_lt 255 (text_size text) in
        let slot = InArena at (text_size text) long in
        let number : number_at t'.extents at ≡ length t.extents = ap (λ es. number_at es at) h.0 ∙ number_at-end t.extents e in
        let there : extent_at t'.extents (number_at t'.extents at) ≡ e = ap (extent_at t'.extents) number ∙ ap (λ es. extent_at es (length t.extents)) h.0 ∙ extent_at-end t.extents e in
        let it : NamesExtent e (text_size text) long = record { live = refl; sized = refl; prefix = refl } in
        let moves : Moves t Fresh (Outer text) t' slot = record {
          arena = subst (MovesExtents t.extents layouts.Fresh) (sym h.0) (pushed-extents t.extents layouts.Fresh (encode_utf8_all text) outer holds.held);
          outside = subst (λ ks. MovesTexts t.texts Fresh ks slot) (sym h.1) (same-texts t.texts Fresh slot tt tt holds.kept);
          extents = ap (map decoded) h.0 ∙ decoded-push t.extents text spelled ∙ sym (trimmed-push (map decoded t.extents) (extent_for (text_size text) text) refl);
          state = ap layouts.InArena (number ∙ sym (length-map t.extents decoded));
          slot = subst (λ x. NamesExtent x (text_size text) long) (sym there) it;
        } in
        subst (Moves t Fresh (Outer text) t') (sym h.2) moves

    module _ (at size : ℕ) (long : Bool) (told : IsTrueOfSlot t (InArena at size long)) where
      reused-moves : (new : Slot) → nat_le (text_size text) (extent_at t.extents (number_at t.extents at)).capacity ≡ true
          → (t'.extents ≡ with_text t.extents (number_at t.extents at) (Some (encode_utf8_all text))) × (t'.texts ≡ t.texts) × (new ≡ InArena at (text_size text) long) → Moves t (InArena at size long) (Outer text) t' new
      reused-moves new fits h =
          let bytes = encode_utf8_all text in
          let n = number_at t.extents at in
          let below = live-below t.extents n told.live in
          let slot = InArena at (text_size text) long in
          let number : number_at t'.extents at ≡ n = ap (λ es. number_at es at) h.0 ∙ number_at-with_text t.extents n (Some bytes) at in
          let e : Extent = record { capacity = (extent_at t.extents n).capacity; text = Some bytes } in
          let there : extent_at t'.extents (number_at t'.extents at) ≡ e = ap (extent_at t'.extents) number ∙ ap (λ es. extent_at es n) h.0 ∙ extent_at-with_text t.extents n (Some bytes) below in
          let it : NamesExtent e (text_size text) long = record { live = refl; sized = refl; prefix = told.prefix } in
          let yes_fits : fits_in (map decoded t.extents) n text ≡ true = decoded-fits t.extents n text ∙ fits in
          let texts : map decoded (with_text t.extents n (Some bytes)) ≡ with_text (map decoded t.extents) n (Some text) =
          decoded-with_text t.extents n (Some bytes) ∙ ap (λ x. with_text (map decoded t.extents) n (Some x)) spelled.again in
          let trim = decoded-trim (with_text t.extents n (Some bytes)) (trimmed-with_text t.extents n bytes holds.trim below) in
          let extents : map decoded (with_text t.extents n (Some bytes)) ≡ trimmed (extents_after (map decoded t.extents) (layouts.InArena n) (Outer text)) = rw yes_fits (sym trim ∙ ap trimmed texts) in
          let moves : Moves t (InArena at size long) (Outer text) t' slot = record {
            arena = subst (MovesExtents t.extents (layouts.InArena n)) (sym h.0) (reused-extents t.extents at told.live holds.held bytes outer (leb-true (text_size text) (extent_at t.extents n).capacity fits) holds.trim);
            outside = subst (λ ks. MovesTexts t.texts (InArena at size long) ks slot) (sym h.1) (same-texts t.texts (InArena at size long) slot tt tt holds.kept);
            extents = ap (map decoded) h.0 ∙ extents;
            state = rw yes_fits (ap layouts.InArena number);
            slot = subst (λ x. NamesExtent x (text_size text) long) (sym there) it;
          } in
          subst (Moves t (InArena at size long) (Outer text) t') (sym h.2) moves

      moved-moves : (new : Slot) → nat_le (text_size text) (extent_at t.extents (number_at t.extents at)).capacity ≡ false → (t'.extents ≡ killed t.extents at) × GoesOutside t.texts t'.texts (encode_utf8_all text) new → Moves t (InArena at size long) (Outer text) t' new
      moved-moves new over h =
          let n = number_at t.extents at in
          let over_is : fits_in (map decoded t.extents) n text ≡ false = decoded-fits t.extents n text ∙ over in
          let extents : map decoded (killed t.extents at) ≡ trimmed (extents_after (map decoded t.extents) (layouts.InArena n) (Outer text)) = rw over_is (decoded-killed t.extents at) in
          subst (Moves t (InArena at size long) (Outer text) t') (sym h.1.named)
          (taken-else (InArena at size long) (key_of new) (subst (MovesExtents t.extents (layouts.InArena n)) (sym h.0) (killed-extents t.extents at told.live holds.held))
          (gained-texts t.texts t'.texts (key_of new) holds.kept (InArena at size long) (encode_utf8_all text) tt outer h.1.gains) h.1.gains.changes.changed (ap (map decoded) h.0 ∙ extents) (rw over_is refl))

    taken-moves : (old new : Slot) → IsTrueOfSlot t old → TakesText t (form_of old) (encode_utf8_all text) t' new → Moves t old (Outer text) t' new
    taken-moves Fresh new told h = appended-moves new h
    taken-moves (InArena at size long) new told h =
        elim (cases_Bool (nat_le (text_size text) (extent_at t.extents (number_at t.extents at)).capacity)) [
          | inl t_is ↦ reused-moves at size long told new t_is (at_true _ _ _ t_is h)
          | inr f_is ↦ moved-moves at size long told new f_is (at_false _ _ _ f_is h)
        ]
    taken-moves (Outside key size) new told h =
        subst (Moves t (Outside key size) (Outer text) t') (sym h.2)
        (taken-else (Outside key size) key (same-arena (state_of t (Outside key size)) h.0) (swapped-texts t.texts t'.texts key holds.kept size (encode_utf8_all text) told.used outer h.1) h.1.changes.changed (same-decoded h.0) refl)
    taken-moves old new told h =
        subst (Moves t old (Outer text) t') (sym h.1.named)
        (taken-else old (key_of new) (same-arena (state_of t old) h.0) (gained-texts t.texts t'.texts (key_of new) holds.kept old (encode_utf8_all text) tt outer h.1.gains) h.1.gains.changes.changed (same-decoded h.0) refl)

  pub step-moves : (old : Slot) (v : Value) (new : Slot) → IsTrueOfSlot t old → Spelled v → StepsStore t (form_of old) (incoming v) t' new → Moves t old (incoming v) t' new
  step-moves old value.Missing new told spelled h = subst (Moves t old Nothing t') (sym h.1) (released-moves old Nothing Missing told missing-replaces h.0)
  step-moves old (value.Of text) new told spelled h =
      elim (cases_Bool (nat_lt (text_size text) 16)) [
        | inl t_is ↦
            let b_is : incoming (value.Of text) ≡ Short text = rw t_is refl in
            let w = subst (λ b. StepsStore t (form_of old) b t' new) b_is h in
            let replaces = inline-replaces text spelled (ltb-true (text_size text) 16 t_is) in
            subst (λ b. Moves t old b t' new) (sym b_is) (subst (Moves t old (Short text) t') (sym w.1) (released-moves old (Short text) (Inline (encode_utf8_all text)) told replaces w.0))
        | inr f_is ↦
            let b_is : incoming (value.Of text) ≡ Outer text = rw f_is refl in
            let w = subst (λ b. StepsStore t (form_of old) b t' new) b_is h in
            let outer : IsOuter (encode_utf8_all text) = record { utf8 = spelled.utf8; size = (ltb-false (text_size text) 16 f_is, spelled.most) } in
            subst (λ b. Moves t old b t' new) (sym b_is) (taken-moves text spelled outer old new told w)
      ]
