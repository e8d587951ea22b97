-- A new store.
use Rattle.std.proofs.Common.{◌≡◌, ◌<◌, ◌≤◌, ℕ, zero, suc, List, [], ◌∷◌, length, map, sum, take, replicate, Option, refl, sym, ap, ◌∙◌, subst, arith, get_or}
use Rattle.std.proofs.lemmas.List.{length-replicate, take_all}
use Rattle.std.proofs.lemmas.List.Folds.{sum_by-replicate}
use Rattle.sa_entry.specs.Slots.{Slot, Fresh}
use Rattle.sa_arena.specs.Extents.{Extent}
use Rattle.sa_alloc.specs.Layouts as layouts
use Rattle.sa_alloc.specs.Layouts.{Layout, EntryState, IsSound, opening_layout, one_if}
use Rattle.sa_alloc.specs.Consistency.{IsSmall, IsStore, state_of, layout_from, IsConsistent, slot_at, is_at_key, is_outside, IsTrueOfSlot}
use Rattle.sa_alloc.specs.Transitions.{Storage, storage}
use Rattle.sa_alloc.specs.StoreValues.{StoreValue, opening_contents}
use Rattle.sa_alloc.proofs.LayoutLemmas.{opening-sound}
use Rattle.sa_alloc.proofs.StoreLemmas.{stored}

states-fresh : (t : Storage) (n : ℕ) → map (state_of t) (replicate n Fresh) ≡ replicate n layouts.Fresh
states-fresh t zero = refl
states-fresh t (suc n) = ap (λ ss. layouts.Fresh ∷ ss) (states-fresh t n)

slots-fresh : (n i : ℕ) → slot_at (replicate n Fresh) i ≡ Fresh
slots-fresh zero i = refl
slots-fresh (suc n) zero = refl
slots-fresh (suc n) (suc i) = slots-fresh n i

pub opened-layout : (lengths : List ℕ) → layout_from lengths (storage [] []) (replicate (sum lengths) Fresh) ≡ opening_layout lengths
opened-layout lengths = ap (λ ss. let l : Layout = record { lengths = lengths; extents = []; states = ss } in l) (states-fresh (storage [] []) (sum lengths))

pub opened : (lengths : List ℕ) → IsConsistent lengths (storage [] []) (replicate (sum lengths) Fresh)
opened lengths = record {
  sound = subst IsSound (sym (opened-layout lengths)) (opening-sound lengths);
  keyed = λ key. let none = sum_by-replicate (λ s. one_if (is_at_key key s)) (sum lengths) Fresh in omega arith;
  outside = let none = sum_by-replicate (λ s. one_if (is_outside s)) (sum lengths) Fresh in omega arith;
  each = λ i h. subst (IsTrueOfSlot (storage [] [])) (sym (slots-fresh (sum lengths) i)) tt;
  holds = record { held = λ k live. cc; kept = λ key used. cc; trim = refl };
  entries = length-replicate (sum lengths) Fresh;
}

-- the parts of a new store
pub opened-store : (lengths items starts : List ℕ) (es : List Extent) (ks : List (Option (List ℕ))) (ss : List Slot) (total count : ℕ)
    → items ≡ lengths → es ≡ [] → ks ≡ [] → ss ≡ replicate total Fresh → total ≡ sum (take count lengths) → length lengths ≤ count
    → length starts ≡ length lengths → ((k : ℕ) → k < length lengths → get_or starts k 0 ≡ sum (take k lengths)) → IsSmall lengths
    → IsStore items starts (storage es ks) ss
opened-store lengths items starts es ks ss total count items_is es_is ks_is ss_is total_is all same starts_are small =
    let ss_all : ss ≡ replicate (sum lengths) Fresh = ss_is ∙ ap (λ n. replicate n Fresh) (total_is ∙ ap sum (take_all count lengths all)) in
    let it : IsStore lengths starts (storage [] []) (replicate (sum lengths) Fresh) = record { consistent = opened lengths; starts_are = (same, starts_are); small = small } in
    subst (λ x. IsStore x starts (storage es ks) ss) (sym items_is) (subst (λ x. IsStore lengths starts (storage x ks) ss) (sym es_is) (subst (λ x. IsStore lengths starts (storage [] x) ss) (sym ks_is) (subst (IsStore lengths starts (storage [] [])) (sym ss_all) it)))

pub opened-view : (lengths items : List ℕ) (es : List Extent) (ks : List (Option (List ℕ))) (ss : List Slot) (total count size spare : ℕ)
    → items ≡ lengths → es ≡ [] → ks ≡ [] → ss ≡ replicate total Fresh → total ≡ sum (take count lengths) → length lengths ≤ count → size ≡ 0 → spare ≡ 0
    → stored items (storage es ks) ss size spare ≡ (let s : StoreValue = record { contents = opening_contents lengths; room = record { size = 0; spare = 0 } } in s)
opened-view lengths items es ks ss total count size spare items_is es_is ks_is ss_is total_is all size_is spare_is =
    let fresh = replicate (sum lengths) Fresh in
    let ss_all : ss ≡ fresh = ss_is ∙ ap (λ n. replicate n Fresh) (total_is ∙ ap sum (take_all count lengths all)) in
    ap (λ x. stored x (storage es ks) ss size spare) items_is ∙ ap (λ x. stored lengths (storage x ks) ss size spare) es_is ∙ ap (λ x. stored lengths (storage [] x) ss size spare) ks_is ∙ ap (λ x. stored lengths (storage [] []) x size spare) ss_all
    ∙ ap (λ n. stored lengths (storage [] []) fresh n spare) size_is ∙ ap (stored lengths (storage [] []) fresh 0) spare_is
    ∙ ap (λ l. let s : StoreValue = record { contents = record { layout = l; slots = fresh; texts = [] }; room = record { size = 0; spare = 0 } } in s) (opened-layout lengths)
