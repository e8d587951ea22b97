-- Bytes of a part stand in the bytes of a text exactly where its code points stand in those of the text.
use Rattle.std.proofs.Common.{◌≡◌, ◌<◌, ◌+◌, ◌-◌, ◌&&◌, ℕ, zero, suc, true, false, eqb, List, [], ◌∷◌, ◌++◌, length, get_or, take, drop, refl, sym, ap, ap₂, ◌∙◌, inl, inr, arith, append_assoc, nat_eq}
use Rattle.std.specs.List.{starts_with}
use Rattle.std.proofs.Math.Utf8.{encode, encodes}
use Rattle.std.proofs.Math.Seq.{drop-nil, drop-append-add}
use Rattle.std.proofs.lemmas.Bool.{false≢true, cases_lt, ne_eqb, and_left, and_right}
use Rattle.std.proofs.lemmas.Bool.Decides.{same_from_decides, Decides-eqb, Decides-like}
use Rattle.std.proofs.lemmas.Slice.Eq.{starts_is}
use Rattle.std.proofs.lemmas.List.{get_or_append_left, get_or-drop}
use Rattle.std.proofs.lemmas.Str.{encodes-append, cons_from_encodes}
use Rattle.sa_text.specs.Points.{is_lead, points_before, is_cut, occurs_at}
use Rattle.sa_text.specs.Searches.{SearchesBytes}
use Rattle.sa_text.specs.Texts.{text_size}
use Rattle.sa_text.proofs.PointLemmas.{one, inside-one, text_size-cons, points_before-zero, points_before-cons}

-- at the start
front-from : (ys xs rest : List ℕ) → encodes xs ≡ encodes ys ++ rest → (more : List ℕ) × (xs ≡ ys ++ more)
front-from [] xs rest e = (xs, refl)
front-from (c ∷ ys) xs rest e =
    let parts = cons_from_encodes xs (encodes ys ++ rest) c (e ∙ append_assoc (encode c) (encodes ys) rest) in
    let more = front-from ys parts.0 rest parts.2 in
    (more.0, parts.1 ∙ ap (λ t. c ∷ t) more.1)

pub starts-encodes : (xs ys : List ℕ) → starts_with nat_eq (encodes xs) (encodes ys) ≡ starts_with nat_eq xs ys
starts-encodes xs ys =
    let bytes = starts_is Decides-eqb (encodes xs) (encodes ys) (starts_with nat_eq (encodes xs) (encodes ys)) refl in
    let points = starts_is Decides-eqb xs ys (starts_with nat_eq xs ys) refl in
    same_from_decides {P = starts_with nat_eq xs ys ≡ true} (starts_with nat_eq (encodes xs) (encodes ys)) (starts_with nat_eq xs ys) (
      λ e. let more = front-from ys xs (drop (length (encodes ys)) (encodes xs)) (bytes.0 e) in points.1 more.0 more.1,
      λ e. let rest = drop (length ys) xs in bytes.1 (encodes rest) (ap encodes (points.0 e) ∙ encodes-append ys rest),
    )
    (λ e. e, λ e. e)

-- within a code point no code point begins
no-start : (xs : List ℕ) (h : ℕ) (t : List ℕ) → is_lead h ≡ true → is_lead (get_or xs 0 0) ≡ false → starts_with nat_eq xs (h ∷ t) ≡ false
no-start [] h t lead e = refl
no-start (x ∷ xs) h t lead e = and_left (eqb h x) _ (ne_eqb h x (λ same. false≢true (sym e ∙ ap is_lead (sym same) ∙ lead)))

eqb-shift : (n x y : ℕ) → eqb (n + x) (n + y) ≡ eqb x y
eqb-shift n x y =
    same_from_decides (eqb (n + x) (n + y)) (eqb x y)
    (Decides-like (eqb (n + x) (n + y)) (λ (e : n + x ≡ n + y). let f : x ≡ y = omega arith in f) (λ (e : x ≡ y). ap (λ k. n + k) e) (Decides-eqb (n + x) (n + y)))
    (Decides-eqb x y)

record IsNeedle (bytes : List ℕ) : Type 0 where
  head : ℕ
  tail : List ℕ
  is : bytes ≡ head ∷ tail
  leads : is_lead head ≡ true

needle : (d : ℕ) (ds : List ℕ) → IsNeedle (encodes (d ∷ ds))
needle d ds = let o = one d in record { head = o.head; tail = o.tail ++ encodes ds; is = ap (λ t. t ++ encodes ds) o.is; leads = o.leads }

module _ (d : ℕ) (ds : List ℕ) where
  law-nil : (at : ℕ) → occurs_at [] (encodes (d ∷ ds)) at ≡ (is_cut [] at && occurs_at [] (d ∷ ds) (points_before [] at))
  law-nil at =
      let n = needle d ds in
      ap₂ (starts_with nat_eq) (drop-nil at) n.is ∙ sym (and_right (is_cut [] at) (occurs_at [] (d ∷ ds) (points_before [] at)) refl)

  law-inside : (c : ℕ) (cs : List ℕ) (a : ℕ) → suc a < length (encode c)
      → occurs_at (encodes (c ∷ cs)) (encodes (d ∷ ds)) (suc a) ≡ (is_cut (c ∷ cs) (suc a) && occurs_at (c ∷ cs) (d ∷ ds) (points_before (c ∷ cs) (suc a)))
  law-inside c cs a l =
      let n = needle d ds in
      let all = encode c ++ encodes cs in
      let here : is_lead (get_or (drop (suc a) all) 0 0) ≡ false =
      ap is_lead (get_or-drop (suc a) all 0 0 ∙ (let e : suc a + 0 ≡ suc a = omega arith in ap (λ k. get_or all k 0) e) ∙ get_or_append_left (encode c) (encodes cs) 0 (suc a) l) ∙ inside-one a c l in
      let none : suc a - length (encode c) ≡ 0 = omega arith in
      let before : points_before (c ∷ cs) (suc a) ≡ 1 = points_before-cons c cs (suc a) (omega arith) ∙ ap suc (ap (points_before cs) none ∙ points_before-zero cs) in
      let size : text_size (take (points_before (c ∷ cs) (suc a)) (c ∷ cs)) ≡ length (encode c) + 0 = ap (λ k. text_size (take k (c ∷ cs))) before ∙ text_size-cons c [] in
      let apart : is_cut (c ∷ cs) (suc a) ≡ false = ne_eqb (text_size (take (points_before (c ∷ cs) (suc a)) (c ∷ cs))) (suc a) (λ e. absurd (omega arith)) in
      ap (λ bs. starts_with nat_eq (drop (suc a) all) bs) n.is ∙ no-start (drop (suc a) all) n.head n.tail n.leads here
      ∙ sym (and_left (is_cut (c ∷ cs) (suc a)) (occurs_at (c ∷ cs) (d ∷ ds) (points_before (c ∷ cs) (suc a))) apart)

  law-behind : (c : ℕ) (cs : List ℕ) (a b : ℕ) → suc a ≡ length (encode c) + b
      → occurs_at (encodes cs) (encodes (d ∷ ds)) b ≡ (is_cut cs b && occurs_at cs (d ∷ ds) (points_before cs b))
      → occurs_at (encodes (c ∷ cs)) (encodes (d ∷ ds)) (suc a) ≡ (is_cut (c ∷ cs) (suc a) && occurs_at (c ∷ cs) (d ∷ ds) (points_before (c ∷ cs) (suc a)))
  law-behind c cs a b e more =
      let n = length (encode c) in
      let p = points_before cs b in
      let left : suc a - n ≡ b = omega arith in
      let before : points_before (c ∷ cs) (suc a) ≡ suc p = points_before-cons c cs (suc a) (omega arith) ∙ ap suc (ap (points_before cs) left) in
      let cut : is_cut (c ∷ cs) (suc a) ≡ is_cut cs b =
      ap₂ eqb (ap (λ k. text_size (take k (c ∷ cs))) before ∙ text_size-cons c (take p cs)) e ∙ eqb-shift n (text_size (take p cs)) b in
      ap (λ bs. starts_with nat_eq bs (encodes (d ∷ ds))) (ap (λ k. drop k (encode c ++ encodes cs)) e ∙ drop-append-add (encode c) (encodes cs) b)
      ∙ more
      ∙ ap₂ ◌&&◌ (sym cut) (ap (occurs_at (c ∷ cs) (d ∷ ds)) (sym before))

  law : (text : List ℕ) (at : ℕ) → occurs_at (encodes text) (encodes (d ∷ ds)) at ≡ (is_cut text at && occurs_at text (d ∷ ds) (points_before text at))
  law [] at = law-nil at
  law (c ∷ cs) zero = starts-encodes (c ∷ cs) (d ∷ ds)
  law (c ∷ cs) (suc a) = elim (cases_lt (suc a) (length (encode c))) [
    | inl l ↦ law-inside c cs a l
    | inr l ↦ law-behind c cs a (suc a - length (encode c)) (omega arith) (law cs (suc a - length (encode c)))
  ]

pub searches : SearchesBytes
searches text [] some at = absurd (omega arith)
searches text (d ∷ ds) some at = law d ds text at
