-- Each change, in the terms of the code that makes it: what the fields hold after it.
use Rattle.std.proofs.Common.{◌≡◌, ◌≤◌, ◌+◌, ◌-◌, ℕ, true, false, List, [], ◌∷◌, ◌++◌, length, take, replicate, set, Some, None, sym, ap, ap₂, ◌∙◌, subst, arith}
use Rattle.std.specs.Vec.{with_items}
use Rattle.std.proofs.lemmas.List.{with_items_is}
use Rattle.std.specs.declared.vec.Vec.{Vec}
use Rattle.sa_arena.specs.declared.arena.Member.{Member}
use Rattle.sa_arena.specs.Buffers.{written}
use Rattle.sa_arena.specs.Extents.{Region, prefix_size, extent_size, cursor_of, extent_at, start_of, number_at, with_text, extent_for, trimmed, IsTextSize}
use Rattle.sa_arena.specs.Images.{padded, extent_image}
use Rattle.sa_arena.specs.Members.{Holds}
use Rattle.sa_arena.proofs.HoldsLemmas.{Found, appended, reused, killed}

-- a vector's bytes after a write into the slice that it lent
pub lent_bytes : {Z : Type 0} (v : Vec ℕ Z) (lent new : List ℕ) (s : ℕ) (t : List ℕ) → lent ≡ v.items → length lent ≡ v.len → length new ≡ length lent → new ≡ written lent s t → (with_items v new).items ≡ written v.items s t
lent_bytes v lent new s t same len kept is = with_items_is v new (kept ∙ len) ∙ is ∙ ap (λ (bs : List ℕ). written bs s t) same

same_places : {r : Region} {t : List Member} {b : List ℕ} {c l p : ℕ} → Holds r t b c l p → (p' : ℕ) → p' ≡ p → Holds r t b c l p'
same_places {r} {t} {b} {c} {l} h p' same = subst (Holds r t b c l) (sym same) h

pub after_reuse : {r : Region} {t : List Member} {b : List ℕ} {c l p at k : ℕ} → Holds r t b c l p → Found r b c l at k → (capacity : ℕ) (u b' : List ℕ) →
    capacity ≡ (extent_at r.extents k).capacity → length u ≤ (extent_at r.extents (number_at r.extents at)).capacity → b' ≡ written b at (padded capacity u) →
    Holds (record { extents = with_text r.extents (number_at r.extents at) (Some u); size = r.size }) (set t k (record { at = at; capacity = capacity; size = length u; live = true })) b' c l p
after_reuse {r} {t} {b} {c} {l} {p} {at} {k} h f capacity u b' cap fits bytes =
    let n = ap (λ i. (extent_at r.extents i).capacity) f.number in
    let done = reused h k u b' (set t k (record { at = at; capacity = capacity; size = length u; live = true })) f.alive (omega arith)
    (bytes ∙ ap₂ (λ a n. written b a (padded n u)) f.at_is cap)
    (ap₂ (λ a n. set t k (record { at = a; capacity = n; size = length u; live = true })) f.at_is cap) in
    subst (λ i. Holds (record { extents = with_text r.extents i (Some u); size = r.size }) (set t k (record { at = at; capacity = capacity; size = length u; live = true })) b' c l p) (sym f.number) done

pub after_kill : {r : Region} {t : List Member} {b : List ℕ} {c l p at k : ℕ} → Holds r t b c l p → Found r b c l at k → (start capacity count : ℕ) (b' : List ℕ) (t' : List Member) (c' p' : ℕ) →
    start ≡ start_of r.extents k → capacity ≡ (extent_at r.extents k).capacity → count ≤ length r.extents → take count (with_text r.extents k None) ≡ trimmed (with_text r.extents k None) →
    b' ≡ written b start (replicate (at - start + capacity) 0) → t' ≡ take count (set t k (record { at = at; capacity = capacity; size = 0; live = false })) → c' ≡ start_of r.extents count → p' ≡ p →
    Holds (record { extents = trimmed (with_text r.extents (number_at r.extents at) None); size = r.size }) t' b' c' (l - (at - start + capacity)) p'
after_kill {r} {t} {b} {c} {l} {p} {at} {k} h f start capacity count b' t' c' p' starts cap within left bytes table cursor places =
    let at_is = f.at_is in
    let living = f.living in
    let size : at - start + capacity ≡ extent_size (extent_at r.extents k) = omega arith in
    let done = killed h k count b' t' c' (l - (at - start + capacity)) f.alive within left
    (bytes ∙ ap₂ (λ a n. written b a (replicate n 0)) starts size)
    (table ∙ ap₂ (λ a n. take count (set t k (record { at = a; capacity = n; size = 0; live = false }))) at_is cap)
    cursor (omega arith) in
    same_places
    (subst (λ i. Holds (record { extents = trimmed (with_text r.extents i None); size = r.size }) t' b' c' (l - (at - start + capacity)) p) (sym f.number) done)
    p' places

pub after_append : {r : Region} {t : List Member} {b : List ℕ} {c l p : ℕ} → Holds r t b c l p → (prefix : ℕ) (u b' : List ℕ) (t' : List Member) (p' : ℕ) →
    prefix ≡ prefix_size (length u) → IsTextSize (length u) → cursor_of r.extents + (prefix_size (length u) + length u) ≤ r.size →
    b' ≡ written b c (extent_image (extent_for (length u) u)) → t' ≡ t ++ (record { at = c + prefix; capacity = length u; size = length u; live = true }) ∷ [] → p' ≡ p →
    Holds (record { extents = r.extents ++ extent_for (length u) u ∷ []; size = r.size }) t' b' (c + prefix + length u) (l + (c + prefix + length u - c)) p'
after_append {r} {t} {b} {c} {l} {p} h prefix u b' t' p' is size room bytes table places =
    let done = appended h u b' t' (c + prefix + length u) (l + (c + prefix + length u - c)) size room bytes
    (table ∙ ap (λ n. t ++ (record { at = c + n; capacity = length u; size = length u; live = true }) ∷ []) is) (omega arith) (omega arith) in
    same_places done p' places
