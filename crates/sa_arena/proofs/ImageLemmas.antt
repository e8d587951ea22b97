-- Laws of images: how long they are, and what a change of one extent changes.
use Rattle.std.proofs.Common.{◌≡◌, ◌≤◌, ◌<◌, ◌+◌, ℕ, zero, suc, true, List, [], ◌∷◌, ◌++◌, length, take, Option, Some, None, is_some, refl, sym, ap, ◌∙◌, subst, arith, rules, length-append, append_assoc}
use Rattle.std.proofs.lemmas.Grind.{common_steps}
use Rattle.std.proofs.lemmas.List.{places, append-nil, length-replicate, set-get_or}
use Rattle.sa_arena.specs.Buffers.{written}
use Rattle.sa_arena.specs.Extents.{Extent, prefix_size, extent_size, cursor_of, extent_at, is_live, start_of, offset_of, with_text}
use Rattle.sa_arena.specs.Images.{prefix_bytes, padded, image_with, extent_image, image_of}
use Rattle.sa_arena.specs.Members.{IsSized, AllSized}
use Rattle.sa_arena.proofs.ExtentLemmas.{cursor-cons, offset-within}
use Rattle.sa_arena.proofs.BufferLemmas.{written-behind, written-front, rewritten}

pub length-prefix_bytes : (c : ℕ) → length (prefix_bytes c) ≡ prefix_size c
unfolding prefix_bytes prefix_size
length-prefix_bytes c = grind (arith, common_steps)

pub length-padded : (c : ℕ) (t : List ℕ) → length t ≤ c → length (padded c t) ≡ c
length-padded c t h = search (rules, places)

pub length-image_with : (c : ℕ) (o : Option (List ℕ)) → IsSized (record { capacity = c; text = o }) → length (image_with c o) ≡ prefix_size c + c
length-image_with c None h = length-replicate (prefix_size c + c) 0
length-image_with c (Some t) h =
    let a = length-append (prefix_bytes c) (padded c t) in
    let p = length-prefix_bytes c in
    let q = length-padded c t h.fits in
    omega arith

pub length-extent_image : (e : Extent) → IsSized e → length (extent_image e) ≡ extent_size e
length-extent_image e h = length-image_with e.capacity e.text h

pub length-image : (es : List Extent) → AllSized es → length (image_of es) ≡ cursor_of es
length-image [] h = refl
length-image (e ∷ es) h =
    let a = length-append (extent_image e) (image_of es) in
    let one = length-extent_image e h.0 in
    let rest = length-image es h.1 in
    let c = cursor-cons e es in
    omega arith

pub image-push : (es : List Extent) (e : Extent) → image_of (es ++ e ∷ []) ≡ image_of es ++ extent_image e
image-push [] e = append-nil (extent_image e)
image-push (x ∷ es) e = ap (λ (i : List ℕ). extent_image x ++ i) (image-push es e) ∙ sym (append_assoc (extent_image x) (image_of es) (extent_image e))

-- the image of the first extents is the front of the image
pub image-take : (es : List Extent) (n : ℕ) → AllSized es → image_of (take n es) ≡ take (start_of es n) (image_of es)
image-take es zero h = refl
image-take [] (suc n) h = refl
image-take (e ∷ es) (suc n) h =
    let one = length-extent_image e h.0 in
    let c = cursor-cons e (take n es) in
    let again = image-take es n h.1 in
    ap (λ (i : List ℕ). extent_image e ++ i) again ∙ front (extent_image e) (image_of es) (start_of es n) (start_of (e ∷ es) (suc n)) (omega arith)
  where
    front : (a b : List ℕ) (k n : ℕ) → n ≡ length a + k → a ++ take k b ≡ take n (a ++ b)
    front [] b k n e = let z : k ≡ n = omega arith in ap (λ i. take i b) z
    front (x ∷ a) b k zero e = absurd (omega arith)
    front (x ∷ a) b k (suc n) e = ap (λ (i : List ℕ). x ∷ i) (front a b k n (omega arith))

-- an extent in the place of one of its size is written where that one begins
pub image-with_text : (es : List Extent) (k : ℕ) (t : Option (List ℕ)) → AllSized es → k < length es → IsSized (record { capacity = (extent_at es k).capacity; text = t }) → image_of (with_text es k t) ≡ written (image_of es) (start_of es k) (image_with (extent_at es k).capacity t)
image-with_text [] k t h below s = absurd (omega arith)
image-with_text (e ∷ es) zero t h below s =
    sym (written-front (extent_image e) (image_of es) (image_with e.capacity t) (length-image_with e.capacity t s ∙ sym (length-extent_image e h.0)))
image-with_text (e ∷ es) (suc k) t h below s =
    let one = length-extent_image e h.0 in
    let c = cursor-cons e (take k es) in
    let within = offset-within es k (omega arith) in
    let all = length-image es h.1 in
    let new = length-image_with (extent_at es k).capacity t s in
    ap (λ (i : List ℕ). extent_image e ++ i) (image-with_text es k t h.1 (omega arith) s)
    ∙ sym (written-behind (extent_image e) (image_of es) (start_of (e ∷ es) (suc k)) (start_of es k) (image_with (extent_at es k).capacity t) (omega arith) (omega arith))

-- a text in the place of one is written behind the prefix, which stays
some_text : (o : Option (List ℕ)) → is_some o ≡ true → (t : List ℕ) × (o ≡ Some t)
some_text None h = cc
some_text (Some t) h = (t, refl)

pub image-reused : (es : List Extent) (k : ℕ) (u : List ℕ) → AllSized es → k < length es → is_live es k ≡ true → IsSized (extent_at es k) → length u ≤ (extent_at es k).capacity → image_of (with_text es k (Some u)) ≡ written (image_of es) (offset_of es k) (padded (extent_at es k).capacity u)
image-reused es k u h below live s fits =
    let e : Extent = extent_at es k in
    let old = some_text e.text live in
    let sized : IsSized (record { capacity = e.capacity; text = Some u }) = record { least = s.least; most = s.most; fits = fits } in
    let was : IsSized (record { capacity = e.capacity; text = Some old.0 }) = subst (λ (o : Option (List ℕ)). IsSized (record { capacity = e.capacity; text = o })) old.1 s in
    let same : image_of es ≡ written (image_of es) (start_of es k) (prefix_bytes e.capacity ++ padded e.capacity old.0) =
    sym (ap image_of (set-get_or es k _)) ∙ image-with_text es k e.text h below s ∙ ap (λ (o : Option (List ℕ)). written (image_of es) (start_of es k) (image_with e.capacity o)) old.1 in
    let p = length-prefix_bytes e.capacity in
    let q = length-padded e.capacity old.0 was.fits in
    let r = length-padded e.capacity u fits in
    let all = length-image es h in
    let within = offset-within es k below in
    image-with_text es k (Some u) h below sized
    ∙ sym (rewritten (image_of es) (start_of es k) (offset_of es k) (prefix_bytes e.capacity) (padded e.capacity old.0) (padded e.capacity u) (omega arith) (omega arith) (omega arith))
    ∙ ap (λ (i : List ℕ). written i (offset_of es k) (padded e.capacity u)) (sym same)
