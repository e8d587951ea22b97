-- Laws of the table of extents, and that the buffer's bytes give the texts back.
use Rattle.std.proofs.Common.{◌≡◌, ◌<◌, ◌+◌, ◌-◌, ℕ, zero, suc, List, [], ◌∷◌, ◌++◌, length, take, drop, replicate, map, get_or, set, Option, Some, None, refl, sym, ap, ap₂, ◌∙◌, arith, length-append, append_assoc, add-zero}
use Rattle.std.proofs.lemmas.List.{take_at, drop_at}
use Rattle.sa_arena.specs.declared.arena.Member.{Member}
use Rattle.sa_arena.specs.Extents.{Extent, prefix_size, extent_size, cursor_of, extent_at, start_of, with_text}
use Rattle.sa_arena.specs.Images.{prefix_bytes, padded, image_with, extent_image, image_of}
use Rattle.sa_arena.specs.Members.{extent_in, member_of, table_from, AllSized}
use Rattle.sa_arena.proofs.ExtentLemmas.{cursor-cons}
use Rattle.sa_arena.proofs.ImageLemmas.{length-prefix_bytes, length-extent_image}

pub length-table : (s : ℕ) (es : List Extent) → length (table_from s es) ≡ length es
length-table s [] = refl
length-table s (e ∷ es) = ap suc (length-table (s + extent_size e) es)

pub table-at : (s : ℕ) (es : List Extent) (k : ℕ) (d : Member) → k < length es → get_or (table_from s es) k d ≡ member_of (s + start_of es k) (extent_at es k)
table-at s [] k d h = absurd (omega arith)
table-at s (e ∷ es) zero d h = ap (λ n. member_of n e) (sym (add-zero s))
table-at s (e ∷ es) (suc k) d h =
    let c = cursor-cons e (take k es) in
    let n : (s + extent_size e) + start_of es k ≡ s + start_of (e ∷ es) (suc k) = omega arith in
    table-at (s + extent_size e) es k d (omega arith) ∙ ap (λ n. member_of n (extent_at es k)) n

pub table-push : (s : ℕ) (es : List Extent) (e : Extent) → table_from s (es ++ e ∷ []) ≡ table_from s es ++ member_of (s + cursor_of es) e ∷ []
table-push s [] e = ap (λ n. member_of n e ∷ []) (sym (add-zero s))
table-push s (x ∷ es) e =
    let c = cursor-cons x es in
    let n : (s + extent_size x) + cursor_of es ≡ s + cursor_of (x ∷ es) = omega arith in
    ap (λ (ms : List Member). member_of s x ∷ ms) (table-push (s + extent_size x) es e ∙ ap (λ n. table_from (s + extent_size x) es ++ member_of n e ∷ []) n)

pub table-with_text : (s : ℕ) (es : List Extent) (k : ℕ) (t : Option (List ℕ)) → k < length es → table_from s (with_text es k t) ≡ set (table_from s es) k (member_of (s + start_of es k) (record { capacity = (extent_at es k).capacity; text = t }))
table-with_text s [] k t h = absurd (omega arith)
table-with_text s (e ∷ es) zero t h = ap (λ n. member_of n (record { capacity = e.capacity; text = t }) ∷ table_from (s + extent_size e) es) (sym (add-zero s))
table-with_text s (e ∷ es) (suc k) t h =
    let c = cursor-cons e (take k es) in
    let n : (s + extent_size e) + start_of es k ≡ s + start_of (e ∷ es) (suc k) = omega arith in
    ap (λ (ms : List Member). member_of s e ∷ ms)
    (table-with_text (s + extent_size e) es k t (omega arith)
    ∙ ap (λ n. set (table_from (s + extent_size e) es) k (member_of n (record { capacity = (extent_at es k).capacity; text = t }))) n)

pub table-take : (s : ℕ) (es : List Extent) (n : ℕ) → table_from s (take n es) ≡ take n (table_from s es)
table-take s es zero = refl
table-take s [] (suc n) = refl
table-take s (e ∷ es) (suc n) = ap (λ (ms : List Member). member_of s e ∷ ms) (table-take (s + extent_size e) es n)

-- the text of an extent stands behind its prefix
text_behind : (front prefix t more : List ℕ) (n : ℕ) → n ≡ length front + length prefix → take (length t) (drop n (front ++ (prefix ++ (t ++ more)))) ≡ t
text_behind front prefix t more n e =
    let d : drop n (front ++ (prefix ++ (t ++ more))) ≡ t ++ more = ap (drop n) (sym (append_assoc front prefix (t ++ more))) ∙ drop_at (front ++ prefix) (t ++ more) n (length-append front prefix ∙ sym e) in
    ap (take (length t)) d ∙ take_at t more (length t) refl

read_one : (front more : List ℕ) (c : ℕ) (o : Option (List ℕ)) → extent_in (front ++ (image_with c o ++ more)) (member_of (length front) (record { capacity = c; text = o })) ≡ record { capacity = c; text = o }
read_one front more c None = refl
read_one front more c (Some t) =
    let zeros : List ℕ = replicate (c - length t) 0 in
    let p = length-prefix_bytes c in
    let shape : (prefix_bytes c ++ padded c t) ++ more ≡ prefix_bytes c ++ (t ++ (zeros ++ more)) = append_assoc (prefix_bytes c) (padded c t) more ∙ ap (λ (x : List ℕ). prefix_bytes c ++ x) (append_assoc t zeros more) in
    let there : take (length t) (drop (length front + prefix_size c) (front ++ ((prefix_bytes c ++ padded c t) ++ more))) ≡ t =
    ap (λ (bs : List ℕ). take (length t) (drop (length front + prefix_size c) (front ++ bs))) shape
    ∙ text_behind front (prefix_bytes c) t (zeros ++ more) (length front + prefix_size c) (omega arith) in
    ap (λ (u : List ℕ). let e : Extent = record { capacity = c; text = Some u } in e) there

pub read_all : (front more : List ℕ) (es : List Extent) → AllSized es → map (extent_in (front ++ (image_of es ++ more))) (table_from (length front) es) ≡ es
read_all front more [] h = refl
read_all front more (e ∷ es) h =
    let i = extent_image e in
    let bs : List ℕ = front ++ (image_of (e ∷ es) ++ more) in
    let here : bs ≡ front ++ (i ++ (image_of es ++ more)) = ap (λ (x : List ℕ). front ++ x) (append_assoc i (image_of es) more) in
    let there : bs ≡ (front ++ i) ++ (image_of es ++ more) = here ∙ sym (append_assoc front i (image_of es ++ more)) in
    let n : length front + extent_size e ≡ length (front ++ i) = ap (λ k. length front + k) (sym (length-extent_image e h.0)) ∙ sym (length-append front i) in
    let head : extent_in bs (member_of (length front) e) ≡ e = ap (λ (x : List ℕ). extent_in x (member_of (length front) e)) here ∙ read_one front (image_of es ++ more) e.capacity e.text in
    let tail : map (extent_in bs) (table_from (length front + extent_size e) es) ≡ es =
    ap₂ (λ (x : List ℕ) (k : ℕ). map (extent_in x) (table_from k es)) there n ∙ read_all (front ++ i) more es h.1 in
    ap₂ (λ (x : Extent) (xs : List Extent). x ∷ xs) head tail
