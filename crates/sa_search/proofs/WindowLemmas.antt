-- Places of a window: what occurs in a part of a text, and so many places later in the whole. Over lists alone, but for the window's UTF-8.
use Rattle.std.proofs.Common.{◌≡◌, ◌≤◌, ◌<◌, ◌+◌, ◌-◌, ◌&&◌, ℕ, zero, suc, Bool, true, false, eqb, leb, List, [], ◌∷◌, length, take, drop, Some, None, refl, sym, ap, ◌∙◌, inl, inr, arith, nat_eq, min, IsUtf8, drop-drop, length-drop}
use Rattle.std.specs.List.{starts_with}
use Rattle.std.specs.Prelude.{slice_range}
use Rattle.std.proofs.Math.Seq.{take-nil}
use Rattle.std.proofs.lemmas.Bool.{cases_lt, cases_Bool, le-leb, lt-leb, leb-true, leb-false, and_left, and_right, and_from, and_parts}
use Rattle.std.proofs.lemmas.List.{length-take-le, take_min}
use Rattle.sa_text.specs.Points.{occurs_at}
use Rattle.std.specs.Str.{chars}
use Rattle.sa_text.specs.Texts.{text_size, most_bytes}
use Rattle.sa_text.proofs.PointLemmas.{one-some, text_size-cons}
use Rattle.sa_search.specs.Cuts.{IsWindow, IsCutFirst, IsCutLast, StandsNowhere}
use Rattle.sa_search.specs.Finds.{occurs, first_place, last_place}
use Rattle.sa_search.proofs.PlaceLemmas.{least-at, least-none, greatest-at, greatest-none}

-- what the beginning of a front says
leb-same : (a b c d : ℕ) → (a ≤ b → c ≤ d) → (c ≤ d → a ≤ b) → leb a b ≡ leb c d
leb-same a b c d f g = elim (cases_Bool (leb a b)) [
  | inl t ↦ t ∙ sym (le-leb c d (f (leb-true a b t)))
  | inr t ↦ elim (cases_lt d c) [
    | inl l ↦ t ∙ sym (lt-leb c d l)
    | inr l ↦ let within = g l in let above = leb-false a b t in absurd (omega arith)
  ]
]

and-swap : (x y z : Bool) → (x && (y && z)) ≡ (y && (x && z))
and-swap true y z = refl
and-swap false true z = refl
and-swap false false z = refl

pub starts-take : (n : ℕ) (xs b : List ℕ) → starts_with nat_eq (take n xs) b ≡ (leb (length b) n && starts_with nat_eq xs b)
starts-take zero xs [] = refl
starts-take (suc n) xs [] = sym (ap (λ t. t && true) (le-leb 0 (suc n) (omega arith)))
starts-take zero xs (x ∷ b) = sym (and_left (leb (suc (length b)) 0) (starts_with nat_eq xs (x ∷ b)) (lt-leb (suc (length b)) 0 (omega arith)))
starts-take (suc n) [] (x ∷ b) = sym (and_right (leb (suc (length b)) (suc n)) false refl)
starts-take (suc n) (y ∷ xs) (x ∷ b) = ap (λ t. eqb x y && t) (starts-take n xs b) ∙ and-swap (eqb x y) (leb (length b) n) (starts_with nat_eq xs b) ∙ ap (λ t. t && (eqb x y && starts_with nat_eq xs b)) (leb-same (length b) n (suc (length b)) (suc n) (λ l. omega arith) (λ l. omega arith))

drop-front : (j m : ℕ) (xs : List ℕ) → drop j (take m xs) ≡ take (m - j) (drop j xs)
drop-front zero m xs = let e : m - 0 ≡ m = omega arith in sym (ap (λ k. take k xs) e)
drop-front (suc j) zero xs = let e : 0 - suc j ≡ 0 = omega arith in sym (ap (λ k. take k (drop (suc j) xs)) e)
drop-front (suc j) (suc m) [] = sym (take-nil (suc m - suc j))
drop-front (suc j) (suc m) (x ∷ xs) = let e : suc m - suc j ≡ m - j = omega arith in drop-front j m xs ∙ sym (ap (λ k. take k (drop j xs)) e)

-- a text occurs at a place of a window exactly where it does so many places later in the whole
pub occurs-window : (a b : List ℕ) (s e j : ℕ) → s ≤ e → (length b ≡ 0 → s + j ≤ e) → occurs a b s e (s + j) ≡ occurs_at (slice_range a s e) b j
occurs-window a b s e j h some =
    let whole = drop (s + j) a in
    let low : leb s (s + j) ≡ true = le-leb s (s + j) (omega arith) in
    let fits : leb (s + j + length b) e ≡ leb (length b) (e - s - j) = leb-same (s + j + length b) e (length b) (e - s - j) (λ l. omega arith) (λ l. elim (cases_lt 0 (length b)) [
      | inl more ↦ omega arith
      | inr none ↦ let within = some (omega arith) in omega arith
    ]) in
    ap (λ t. t && (leb (s + j + length b) e && starts_with nat_eq whole b)) low
    ∙ ap (λ t. t && starts_with nat_eq whole b) fits
    ∙ sym (starts-take (e - s - j) whole b)
    ∙ sym (ap (λ xs. starts_with nat_eq xs b) (drop-front j (e - s) (drop s a) ∙ ap (take (e - s - j)) (drop-drop j s a)))

-- a window, from the UTF-8 behind its first place
pub is-window : (a rest bytes : List ℕ) (first last s t : ℕ) → first ≡ s → last ≡ t → first ≤ last → first ≤ length a → length a ≤ most_bytes
    → chars rest ≡ drop first a → chars bytes ≡ take (last - first) (chars rest) → IsUtf8 bytes → length bytes ≤ most_bytes → IsWindow a s (min t (length a)) first bytes
is-window a rest bytes first last s t e f h l most behind front u short =
    let left = length-drop s a in
    let more : last - first ≡ t - s = omega arith in
    let cut : min (t - s) (length (drop s a)) ≡ min t (length a) - s = omega arith in
    record {
      begins = e;
      order = omega arith;
      within = omega arith;
      few = omega arith;
      points =
          front ∙ ap (take (last - first)) (behind ∙ ap (λ k. drop k a) e) ∙ ap (λ k. take k (drop s a)) more
          ∙ sym (take_min (t - s) (drop s a)) ∙ ap (λ k. take k (drop s a)) cut;
      utf8 = u;
      short = short;
    }

-- before the window nothing occurs
pub occurs-early : (a b : List ℕ) (s e p : ℕ) → p < s → occurs a b s e p ≡ false
occurs-early a b s e p h = and_left (leb s p) (leb (p + length b) e && occurs_at a b p) (lt-leb s p h)

-- nothing occurs where the first place is behind the second
pub occurs-never : (a b : List ℕ) (s e p : ℕ) → e < s → occurs a b s e p ≡ false
occurs-never a b s e p h = elim (cases_lt p s) [
  | inl early ↦ occurs-early a b s e p early
  | inr late ↦ and_right (leb s p) (leb (p + length b) e && occurs_at a b p) (and_left (leb (p + length b) e) (occurs_at a b p) (lt-leb (p + length b) e (omega arith)))
]

-- the places of a window, from those of its code points
pub record IsEmptyPart (b : List ℕ) : Type 0 where
  pub none : b ≡ []

pub empty-part : (b : List ℕ) → text_size b ≡ 0 → IsEmptyPart b
empty-part [] e = record { none = refl }
empty-part (c ∷ b) e = let some = one-some c in let size = text_size-cons c b in absurd (omega arith)

pub some-part : (b : List ℕ) → 0 < text_size b → 0 < length b
some-part [] h = absurd (omega arith)
some-part (c ∷ b) h = omega arith

occurs-empty : (a : List ℕ) (s e p : ℕ) → s ≤ p → p ≤ e → occurs a [] s e p ≡ true
occurs-empty a s e p h l = and_from (leb s p) (leb (p + 0) e && true) (le-leb s p h) (and_from (leb (p + 0) e) true (le-leb (p + 0) e (omega arith)) refl)

pub occurs-fits : (a b : List ℕ) (s e p : ℕ) → occurs a b s e p ≡ true → p + length b ≤ e
occurs-fits a b s e p h =
    leb-true (p + length b) e (and_parts (leb (p + length b) e) (occurs_at a b p) (and_parts (leb s p) (leb (p + length b) e && occurs_at a b p) h).1).0

occurs-late : (a b : List ℕ) (s e p : ℕ) → e < p → occurs a b s e p ≡ false
occurs-late a b s e p h = and_right (leb s p) (leb (p + length b) e && occurs_at a b p) (and_left (leb (p + length b) e) (occurs_at a b p) (lt-leb (p + length b) e (omega arith)))

module _ (a b : List ℕ) (s e first : ℕ) (bytes : List ℕ) (w : IsWindow a s e first bytes) where
  -- what occurs in the window
  pub in-window : (j : ℕ) → 0 < length b → occurs a b s e (s + j) ≡ occurs_at (chars bytes) b j
  in-window j some = occurs-window a b s e j w.order (λ none. absurd (omega arith)) ∙ sym (ap (λ xs. occurs_at xs b j) w.points)

  nowhere : 0 < length b → StandsNowhere (chars bytes) b → (q : ℕ) → occurs a b s e q ≡ false
  nowhere some none q = elim (cases_lt q s) [
    | inl early ↦ occurs-early a b s e q early
    | inr late ↦ let sum : q ≡ s + (q - s) = omega arith in ap (occurs a b s e) sum ∙ in-window (q - s) some ∙ none (q - s)
  ]

  pub first-none : 0 < length b → StandsNowhere (chars bytes) b → first_place a b s e ≡ None
  first-none some none = least-none (occurs a b s e) (length a + 1) 0 (nowhere some none)

  pub last-none : 0 < length b → StandsNowhere (chars bytes) b → last_place a b s e ≡ None
  last-none some none = greatest-none (occurs a b s e) (length a + 1) (nowhere some none)

  pub first-found : (front behind : List ℕ) → 0 < length b → IsCutFirst bytes b front behind → first_place a b s e ≡ Some (first + length (chars front))
  first-found front behind some cut =
      let p = length (chars front) in
      let here = in-window p some ∙ cut.place.here in
      let fits = occurs-fits a b s e (s + p) here in
      let within = w.within in
      let before : (q : ℕ) → q < s + p → occurs a b s e q ≡ false = λ q l. elim (cases_lt q s) [
        | inl early ↦ occurs-early a b s e q early
        | inr late ↦ let sum : q ≡ s + (q - s) = omega arith in ap (occurs a b s e) sum ∙ in-window (q - s) some ∙ cut.before (q - s) (omega arith)
      ] in
      least-at (occurs a b s e) (length a + 1) 0 (s + p) (omega arith) (omega arith) here before ∙ ap (λ k. Some (k + p)) (sym w.begins)

  pub last-found : (front : List ℕ) → 0 < length b → IsCutLast bytes b front → last_place a b s e ≡ Some (first + length (chars front))
  last-found front some cut =
      let p = length (chars front) in
      let here = in-window p some ∙ cut.place.here in
      let fits = occurs-fits a b s e (s + p) here in
      let within = w.within in
      let after : (q : ℕ) → s + p < q → occurs a b s e q ≡ false = λ q l.
      let sum : q ≡ s + (q - s) = omega arith in ap (occurs a b s e) sum ∙ in-window (q - s) some ∙ cut.after (q - s) (omega arith) in
      greatest-at (occurs a b s e) (length a + 1) (s + p) (omega arith) here after ∙ ap (λ k. Some (k + p)) (sym w.begins)

  -- how many code points the window has
  pub window-length : length (chars bytes) ≡ e - s
  window-length =
      let within = w.within in
      let order = w.order in
      let left = length-drop s a in
      ap length w.points ∙ length-take-le (e - s) (drop s a) (omega arith)

  pub first-empty : IsEmptyPart b → first_place a b s e ≡ Some first
  first-empty none =
      let within = w.within in
      let order = w.order in
      ap (λ t. first_place a t s e) none.none
      ∙ least-at (occurs a [] s e) (length a + 1) 0 s (omega arith) (omega arith) (occurs-empty a s e s (omega arith) order) (λ q l. occurs-early a [] s e q l)
      ∙ ap Some (sym w.begins)

  pub last-empty : IsEmptyPart b → last_place a b s e ≡ Some (first + length (chars bytes))
  last-empty none =
      let within = w.within in
      let order = w.order in
      let begins = w.begins in
      let size = window-length in
      let end : e ≡ first + length (chars bytes) = omega arith in
      ap (λ t. last_place a t s e) none.none
      ∙ greatest-at (occurs a [] s e) (length a + 1) e (omega arith) (occurs-empty a s e e order (omega arith)) (λ q l. occurs-late a [] s e q l)
      ∙ ap Some end
