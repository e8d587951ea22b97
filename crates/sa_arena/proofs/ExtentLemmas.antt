-- Laws of extents: where they lie, how one is found by its offset, and what a change of one leaves alone.
use Rattle.std.proofs.Common.{◌≡◌, ◌≤◌, ◌<◌, ◌≢◌, ◌+◌, ◌-◌, ℕ, zero, suc, true, false, cond, List, [], ◌∷◌, ◌++◌, length, take, Option, Some, refl, sym, ap, ◌∙◌, inl, inr, arith, length-append, get_or-set_other, get_or-set_same}
use Rattle.std.proofs.lemmas.Grind.{common_steps}
use Rattle.std.proofs.lemmas.List.Sums.{sum_by-cons, sum_by-append, sum_by-set}
use Rattle.std.proofs.lemmas.Bool.{cases_Bool}
use Rattle.std.proofs.lemmas.Bool.Decides.{eqb_tells}
use Rattle.std.proofs.Math.Dec.{eqb}
use Rattle.sa_arena.specs.Extents.{Extent, prefix_size, extent_size, cursor_of, has_text, live_size, dead_size, live_bytes, dead_bytes, extent_at, is_live, offset_of, number_at, with_text, front_of, trimmed}

pub prefix_size-some : (c : ℕ) → 1 ≤ prefix_size c
unfolding prefix_size
prefix_size-some c = grind (arith, common_steps)

pub prefix_size-most : (c : ℕ) → prefix_size c ≤ 8
unfolding prefix_size
prefix_size-most c = grind (arith, common_steps)

pub cursor-cons : (e : Extent) (es : List Extent) → cursor_of (e ∷ es) ≡ extent_size e + cursor_of es
cursor-cons e es = sum_by-cons extent_size e es

pub cursor-append : (es fs : List Extent) → cursor_of (es ++ fs) ≡ cursor_of es + cursor_of fs
cursor-append es fs = sum_by-append extent_size es fs

pub offset-cons : (e : Extent) (es : List Extent) (k : ℕ) → offset_of (e ∷ es) (suc k) ≡ extent_size e + offset_of es k
offset-cons e es k = omega (arith, cursor-cons e (take k es))

pub offset-some : (es : List Extent) (k : ℕ) → 1 ≤ offset_of es k
offset-some es k = omega (arith, prefix_size-some (extent_at es k).capacity)

-- how a number is found

pub number_at-here : (e : Extent) (es : List Extent) (at : ℕ) → prefix_size e.capacity ≡ at → number_at (e ∷ es) at ≡ 0
number_at-here e es at h = grind (arith, common_steps)

pub number_at-later : (e : Extent) (es : List Extent) (at : ℕ) → prefix_size e.capacity ≢ at → number_at (e ∷ es) at ≡ suc (number_at es (at - extent_size e))
number_at-later e es at h = grind (arith, common_steps)

pub number_at-zero : (es : List Extent) → number_at es 0 ≡ length es
number_at-zero [] = refl
number_at-zero (e ∷ es) =
    let ne : prefix_size e.capacity ≢ 0 = λ h. let s = prefix_size-some e.capacity in absurd (omega arith) in
    let z : 0 - extent_size e ≡ 0 = omega arith in
    number_at-later e es 0 ne ∙ ap (λ n. suc (number_at es n)) z ∙ ap suc (number_at-zero es)

pub number_at-offset : (es : List Extent) (k : ℕ) → k < length es → number_at es (offset_of es k) ≡ k
number_at-offset [] k h = absurd (omega arith)
number_at-offset (e ∷ es) zero h = number_at-here e es _ (omega arith)
number_at-offset (e ∷ es) (suc k) h =
    let s = offset-cons e es k in
    let one = offset-some es k in
    let ne : prefix_size e.capacity ≢ offset_of (e ∷ es) (suc k) = λ q. absurd (omega arith) in
    let back : offset_of (e ∷ es) (suc k) - extent_size e ≡ offset_of es k = omega arith in
    number_at-later e es _ ne ∙ ap (λ n. suc (number_at es n)) back ∙ ap suc (number_at-offset es k (omega arith))

pub offset-number_at : (es : List Extent) (at : ℕ) → number_at es at < length es → offset_of es (number_at es at) ≡ at
offset-number_at [] at h = absurd (omega arith)
offset-number_at (e ∷ es) at h =
    elim (eqb_tells (prefix_size e.capacity) at) [
      | inl w ↦ ap (offset_of (e ∷ es)) (number_at-here e es at w.1) ∙ (let q = w.1 in omega arith)
      | inr w ↦
          let n = number_at-later e es at w.1 in
          let again = offset-number_at es (at - extent_size e) (omega arith) in
          let one = offset-some es (number_at es (at - extent_size e)) in
          ap (offset_of (e ∷ es)) n ∙ offset-cons e es (number_at es (at - extent_size e)) ∙ omega arith
    ]

pub number_at-above : (es : List Extent) (k at : ℕ) → k < length es → offset_of es k < at → k < number_at es at
number_at-above [] k at h above = absurd (omega arith)
number_at-above (e ∷ es) zero at h above =
    let n = number_at-later e es at (λ q. absurd (omega arith)) in omega arith
number_at-above (e ∷ es) (suc k) at h above =
    let s = offset-cons e es k in
    let n = number_at-later e es at (λ q. absurd (omega arith)) in
    let again = number_at-above es k (at - extent_size e) (omega arith) (omega arith) in
    omega arith

pub number_at-below : (es : List Extent) (k at : ℕ) → k < length es → at < offset_of es k → number_at es at < length es → number_at es at < k
number_at-below [] k at h below found = absurd (omega arith)
number_at-below (e ∷ es) zero at h below found =
    let n = number_at-later e es at (λ q. absurd (omega arith)) in
    let z = number_at-zero es in
    let back : at - extent_size e ≡ 0 = omega arith in
    let all : number_at es (at - extent_size e) ≡ length es = ap (number_at es) back ∙ z in
    absurd (omega arith)
number_at-below (e ∷ es) (suc k) at h below found =
    elim (eqb_tells (prefix_size e.capacity) at) [
      | inl w ↦ let n = number_at-here e es at w.1 in omega arith
      | inr w ↦
          let n = number_at-later e es at w.1 in
          let s = offset-cons e es k in
          let one = offset-some es k in
          let again = number_at-below es k (at - extent_size e) (omega arith) (omega arith) (omega arith) in
          omega arith
    ]

-- what a change of one extent's text, and one more extent, leave alone

pub number_at-with_text : (es : List Extent) (k : ℕ) (t : Option (List ℕ)) (at : ℕ) → number_at (with_text es k t) at ≡ number_at es at
number_at-with_text [] k t at = refl
number_at-with_text (e ∷ es) zero t at = refl
number_at-with_text (e ∷ es) (suc k) t at = ap (λ n. cond (eqb (prefix_size e.capacity) at) 0 (suc n)) (number_at-with_text es k t (at - extent_size e))

pub number_at-append : (es fs : List Extent) (at : ℕ) → number_at es at < length es → number_at (es ++ fs) at ≡ number_at es at
number_at-append [] fs at h = absurd (omega arith)
number_at-append (e ∷ es) fs at h =
    elim (eqb_tells (prefix_size e.capacity) at) [
      | inl w ↦ number_at-here e (es ++ fs) at w.1 ∙ sym (number_at-here e es at w.1)
      | inr w ↦
          let n = number_at-later e es at w.1 in
          number_at-later e (es ++ fs) at w.1 ∙ ap suc (number_at-append es fs (at - extent_size e) (omega arith)) ∙ sym n
    ]

pub extent_at-end : (es : List Extent) (e : Extent) → extent_at (es ++ e ∷ []) (length es) ≡ e
extent_at-end [] e = refl
extent_at-end (x ∷ es) e = extent_at-end es e

pub extent_at-append : (es fs : List Extent) (k : ℕ) → k < length es → extent_at (es ++ fs) k ≡ extent_at es k
extent_at-append [] fs k h = absurd (omega arith)
extent_at-append (e ∷ es) fs zero h = refl
extent_at-append (e ∷ es) fs (suc k) h = extent_at-append es fs k (omega arith)

pub offset-end : (es : List Extent) (e : Extent) → offset_of (es ++ e ∷ []) (length es) ≡ cursor_of es + prefix_size e.capacity
offset-end [] e = refl
offset-end (x ∷ es) e =
    let s = offset-cons x (es ++ e ∷ []) (length es) in
    let c = cursor-cons x es in
    let again = offset-end es e in
    omega arith

pub number_at-end : (es : List Extent) (e : Extent) → number_at (es ++ e ∷ []) (cursor_of es + prefix_size e.capacity) ≡ length es
number_at-end es e =
    ap (number_at (es ++ e ∷ [])) (sym (offset-end es e))
    ∙ number_at-offset (es ++ e ∷ []) (length es) (let l = length-append es (e ∷ []) in omega arith)

pub offset-within : (es : List Extent) (k : ℕ) → k < length es → offset_of es k + (extent_at es k).capacity ≤ cursor_of es
offset-within [] k h = absurd (omega arith)
offset-within (e ∷ es) zero h = let c = cursor-cons e es in omega arith
offset-within (e ∷ es) (suc k) h =
    let s = offset-cons e es k in
    let c = cursor-cons e es in
    let again = offset-within es k (omega arith) in
    omega arith

pub cursor-with_text : (es : List Extent) (k : ℕ) (t : Option (List ℕ)) → cursor_of (with_text es k t) ≡ cursor_of es
cursor-with_text [] k t = refl
cursor-with_text (e ∷ es) zero t =
    cursor-cons (record { capacity = e.capacity; text = t }) es ∙ sym (cursor-cons e es)
cursor-with_text (e ∷ es) (suc k) t =
    cursor-cons e (with_text es k t) ∙ ap (λ n. extent_size e + n) (cursor-with_text es k t) ∙ sym (cursor-cons e es)

pub extent_at-with_text : (es : List Extent) (k : ℕ) (t : Option (List ℕ)) → k < length es → extent_at (with_text es k t) k ≡ record { capacity = (extent_at es k).capacity; text = t }
extent_at-with_text es k t h = get_or-set_same es k _ _ h

pub extent_at-with_text_other : (es : List Extent) (k j : ℕ) (t : Option (List ℕ)) → j ≢ k → extent_at (with_text es k t) j ≡ extent_at es j
extent_at-with_text_other es k j t h = get_or-set_other es k j _ _ h

pub live-below : (es : List Extent) (k : ℕ) → is_live es k ≡ true → k < length es
live-below [] k h = cc
live-below (e ∷ es) zero h = omega arith
live-below (e ∷ es) (suc k) h = let again = live-below es k h in omega arith

-- the dead extents at the end

pub front-live : (e : Extent) (es : List Extent) (k : ℕ) → is_live (front_of e es) k ≡ is_live (e ∷ es) k
front-live e (x ∷ xs) k = refl
front-live e [] k =
    elim (cases_Bool (has_text e)) [
      | inl t ↦ rw t refl
      | inr f ↦ rw f (none_live e k f)
    ]
  where
    none_live : (e : Extent) (k : ℕ) → has_text e ≡ false → is_live [] k ≡ is_live (e ∷ []) k
    none_live e zero f = sym f
    none_live e (suc k) f = refl

pub trimmed-live : (es : List Extent) (k : ℕ) → is_live (trimmed es) k ≡ is_live es k
trimmed-live [] k = refl
trimmed-live (e ∷ es) zero = front-live e (trimmed es) zero
trimmed-live (e ∷ es) (suc k) = front-live e (trimmed es) (suc k) ∙ trimmed-live es k

-- an extent that is live stays in front of what follows it
pub front-of_live : (e : Extent) (es : List Extent) → has_text e ≡ true → front_of e es ≡ e ∷ es
front-of_live e [] t = rw t refl
front-of_live e (x ∷ xs) t = refl

pub front-before_live : (e : Extent) (es : List Extent) (k : ℕ) → is_live es k ≡ true → front_of e es ≡ e ∷ es
front-before_live e [] k t = cc
front-before_live e (x ∷ xs) k t = refl

pub trimmed-extent_at : (es : List Extent) (k : ℕ) → is_live es k ≡ true → extent_at (trimmed es) k ≡ extent_at es k
trimmed-extent_at [] k t = refl
trimmed-extent_at (e ∷ es) zero t = ap (λ xs. extent_at xs zero) (front-of_live e (trimmed es) t)
trimmed-extent_at (e ∷ es) (suc k) t =
    ap (λ xs. extent_at xs (suc k)) (front-before_live e (trimmed es) k (trimmed-live es k ∙ t)) ∙ trimmed-extent_at es k t

pub number_at-trimmed : (es : List Extent) (at : ℕ) → is_live es (number_at es at) ≡ true → number_at (trimmed es) at ≡ number_at es at
number_at-trimmed [] at t = refl
number_at-trimmed (e ∷ es) at t =
    elim (eqb_tells (prefix_size e.capacity) at) [
      | inl w ↦
          let n = number_at-here e es at w.1 in
          let here : has_text e ≡ true = ap (is_live (e ∷ es)) (sym n) ∙ t in
          ap (λ xs. number_at xs at) (front-of_live e (trimmed es) here) ∙ number_at-here e (trimmed es) at w.1 ∙ sym n
      | inr w ↦
          let n = number_at-later e es at w.1 in
          let m = number_at es (at - extent_size e) in
          let there : is_live es m ≡ true = ap (is_live (e ∷ es)) (sym n) ∙ t in
          ap (λ xs. number_at xs at) (front-before_live e (trimmed es) m (trimmed-live es m ∙ there))
          ∙ number_at-later e (trimmed es) at w.1 ∙ ap suc (number_at-trimmed es (at - extent_size e) there) ∙ sym n
    ]

pub trimmed-push : (es : List Extent) (e : Extent) → has_text e ≡ true → trimmed (es ++ e ∷ []) ≡ es ++ e ∷ []
trimmed-push [] e t = front-of_live e [] t
trimmed-push (x ∷ es) e t =
    ap (front_of x) (trimmed-push es e t)
    ∙ front-before_live x (es ++ e ∷ []) (length es) (ap has_text (extent_at-end es e) ∙ t)

pub trimmed-tail : (e : Extent) (es : List Extent) → trimmed (e ∷ es) ≡ e ∷ es → trimmed es ≡ es
trimmed-tail e es h = tail_of e es (trimmed es) h
  where
    tail_of : (e : Extent) (es fs : List Extent) → front_of e fs ≡ e ∷ es → fs ≡ es
    tail_of e es [] h =
        elim (cases_Bool (has_text e)) [
          | inl t ↦ let g : e ∷ [] ≡ e ∷ es = sym (front-of_live e [] t) ∙ h in cc
          | inr f ↦ let g : (let none : List Extent = [] in none) ≡ e ∷ es = (rw f refl) ∙ h in cc
        ]
    tail_of e es (x ∷ xs) h = cc

pub trimmed-with_text : (es : List Extent) (k : ℕ) (t : List ℕ) → trimmed es ≡ es → k < length es → trimmed (with_text es k (Some t)) ≡ with_text es k (Some t)
trimmed-with_text [] k t h below = refl
trimmed-with_text (e ∷ es) zero t h below =
    ap (front_of (record { capacity = e.capacity; text = Some t })) (trimmed-tail e es h) ∙ front-of_live (record { capacity = e.capacity; text = Some t }) es refl
trimmed-with_text (e ∷ es) (suc k) t h below =
    ap (front_of e) (trimmed-with_text es k t (trimmed-tail e es h) (omega arith))
    ∙ front-before_live e (with_text es k (Some t)) k (ap has_text (extent_at-with_text es k (Some t) (omega arith)))

pub trimmed-twice : (es : List Extent) → trimmed (trimmed es) ≡ trimmed es
trimmed-twice [] = refl
trimmed-twice (e ∷ es) = twice e (trimmed es) (trimmed-twice es)
  where
    twice : (e : Extent) (es : List Extent) → trimmed es ≡ es → trimmed (front_of e es) ≡ front_of e es
    twice e [] h =
        elim (cases_Bool (has_text e)) [
          | inl t ↦ rw t (front-of_live e [] t)
          | inr f ↦ rw f refl
        ]
    twice e (x ∷ xs) h = ap (front_of e) h

pub cursor-front : (e : Extent) (es : List Extent) → cursor_of (front_of e es) ≤ extent_size e + cursor_of es
cursor-front e [] =
    elim (cases_Bool (has_text e)) [
      | inl t ↦ let c = cursor-cons e [] in let f = ap cursor_of (front-of_live e [] t) in omega arith
      | inr f ↦ rw f (omega arith)
    ]
cursor-front e (x ∷ xs) = let c = cursor-cons e (x ∷ xs) in omega arith

pub cursor-trimmed : (es : List Extent) → cursor_of (trimmed es) ≤ cursor_of es
cursor-trimmed [] = omega arith
cursor-trimmed (e ∷ es) =
    let c = cursor-cons e es in
    let f = cursor-front e (trimmed es) in
    let again = cursor-trimmed es in
    omega arith

pub live-cons : (e : Extent) (es : List Extent) → live_bytes (e ∷ es) ≡ live_size e + live_bytes es
live-cons e es = sum_by-cons live_size e es

pub live-trimmed : (es : List Extent) → live_bytes (trimmed es) ≡ live_bytes es
live-trimmed [] = refl
live-trimmed (e ∷ es) = live-front e (trimmed es) ∙ live-cons e (trimmed es) ∙ ap (λ n. live_size e + n) (live-trimmed es) ∙ sym (live-cons e es)
  where
    live-front : (e : Extent) (es : List Extent) → live_bytes (front_of e es) ≡ live_bytes (e ∷ es)
    live-front e [] =
        elim (cases_Bool (has_text e)) [
          | inl t ↦ ap live_bytes (front-of_live e [] t)
          | inr f ↦ rw f refl
        ]
    live-front e (x ∷ xs) = refl

pub live-append : (es fs : List Extent) → live_bytes (es ++ fs) ≡ live_bytes es + live_bytes fs
live-append es fs = sum_by-append live_size es fs

pub live-with_text : (es : List Extent) (k : ℕ) (t : Option (List ℕ)) → k < length es → live_bytes (with_text es k t) + live_size (extent_at es k) ≡ live_bytes es + live_size (record { capacity = (extent_at es k).capacity; text = t })
live-with_text es k t h = sum_by-set live_size es k _ _ h

pub cursor-live_and_dead : (es : List Extent) → cursor_of es ≡ live_bytes es + dead_bytes es
cursor-live_and_dead [] = refl
cursor-live_and_dead (e ∷ es) =
    let c = cursor-cons e es in
    let l = live-cons e es in
    let d = sum_by-cons dead_size e es in
    let one : extent_size e ≡ live_size e + dead_size e = elim (cases_Bool (has_text e)) [ inl t ↦ rw t (omega arith) | inr f ↦ rw f (omega arith) ] in
    let again = cursor-live_and_dead es in
    omega arith
