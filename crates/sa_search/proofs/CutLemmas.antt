-- Where a search by bytes finds a part, and where it finds none: there the code points of the part stand, and nowhere before.
use Rattle.std.proofs.Common.{◌≡◌, ◌≤◌, ◌<◌, ◌+◌, ◌&&◌, ℕ, zero, suc, true, List, [], ◌∷◌, ◌++◌, length, take, drop, refl, sym, ap, ap₂, subst, ◌∙◌, inl, inr, arith, IsUtf8, drop-drop, take-add, length-append, length-drop, take_at}
use Rattle.std.specs.Str.{chars}
use Rattle.std.proofs.lemmas.Bool.{cases_lt, and_parts, and_from, eq-eqb, false_from_ne_true}
use Rattle.std.proofs.lemmas.Bool.Decides.{Decides-eqb}
use Rattle.std.proofs.lemmas.List.{length-take-le, nil_from_length}
use Rattle.std.proofs.lemmas.Slice.Eq.{starts_is}
use Rattle.std.proofs.lemmas.Str.{encodes-chars, length-le-encodes}
use Rattle.memchr.specs.Find.{OccursAt, Nowhere, NoneBefore, NoneAfter}
use Rattle.memchr.proofs.lemmas.MatchLemmas.{OccursAt-split, OccursAt-from_part}
use Rattle.sa_text.specs.Points.{is_cut, occurs_at, points_before}
use Rattle.sa_text.specs.Texts.{text_size}
use Rattle.sa_text.proofs.PointLemmas.{IsFront, parted, front_at, points_before-size, text_size-append, text_size-cons, one-some, no-chars}
use Rattle.sa_text.proofs.SearchLemmas.{searches}
use Rattle.sa_search.specs.Cuts.{IsBefore, IsCutFirst, IsCutLast, StandsNowhere}

-- what stands at a place of a list, both ways
pub stands : (list part : List ℕ) (k : ℕ) → occurs_at list part k ≡ true → drop k list ≡ part ++ drop (length part) (drop k list)
stands list part k e = (starts_is Decides-eqb (drop k list) part (occurs_at list part k) refl).0 e

pub stands-from : (list part rest : List ℕ) (k : ℕ) → drop k list ≡ part ++ rest → occurs_at list part k ≡ true
stands-from list part rest k e = (starts_is Decides-eqb (drop k list) part (occurs_at list part k) refl).1 rest e

-- a part that is not empty stands within
pub stands-within : (list part : List ℕ) (k : ℕ) → 0 < length part → occurs_at list part k ≡ true → k + length part ≤ length list
stands-within list part k some e =
    let sum = ap length (stands list part k e) in
    let two = length-append part (drop (length part) (drop k list)) in
    let one = length-drop k list in
    omega arith

-- sizes rise with the places
pub size-rises : (cs : List ℕ) (k p : ℕ) → k < p → p ≤ length cs → text_size (take k cs) < text_size (take p cs)
size-rises [] k p h l = absurd (omega arith)
size-rises (c ∷ cs) k zero h l = absurd (omega arith)
size-rises (c ∷ cs) zero (suc p) h l = let some = one-some c in let size = text_size-cons c (take p cs) in omega arith
size-rises (c ∷ cs) (suc k) (suc p) h l =
    let more = size-rises cs k p (omega arith) (omega arith) in
    let one = text_size-cons c (take k cs) in
    let two = text_size-cons c (take p cs) in
    omega arith

-- UTF-8 that is not empty has code points
pub some-points : (bytes : List ℕ) → IsUtf8 bytes → 0 < length bytes → 0 < length (chars bytes)
some-points bytes u h = elim (cases_lt 0 (length (chars bytes))) [
  | inl l ↦ l
  | inr z ↦ let e = no-chars bytes u (nil_from_length (chars bytes) (omega arith)) in absurd (omega arith)
]

pub size-chars : (bytes : List ℕ) → IsUtf8 bytes → text_size (chars bytes) ≡ length bytes
size-chars bytes u = ap length (encodes-chars bytes u)

pub points-within : (bytes : List ℕ) → IsUtf8 bytes → length (chars bytes) ≤ length bytes
points-within bytes u = let size = size-chars bytes u in let most = length-le-encodes (chars bytes) in omega arith

-- the law, said of UTF-8
by-bytes : (bytes needle : List ℕ) → IsUtf8 bytes → IsUtf8 needle → 0 < length needle → (at : ℕ)
    → occurs_at bytes needle at ≡ (is_cut (chars bytes) at && occurs_at (chars bytes) (chars needle) (points_before (chars bytes) at))
by-bytes bytes needle u v some at =
    sym (ap₂ (λ x y. occurs_at x y at) (encodes-chars bytes u) (encodes-chars needle v)) ∙ searches (chars bytes) (chars needle) (some-points needle v some) at

bytes-stand : (bytes needle : List ℕ) (at : ℕ) → OccursAt bytes needle at → occurs_at bytes needle at ≡ true
bytes-stand bytes needle at h = stands-from bytes needle (drop (at + length needle) bytes) at (OccursAt-split bytes needle at h)

bytes-occur : (bytes needle : List ℕ) (at : ℕ) → 0 < length needle → occurs_at bytes needle at ≡ true → OccursAt bytes needle at
bytes-occur bytes needle at some e =
    OccursAt-from_part bytes needle at (stands-within bytes needle at some e)
    (ap (take (length needle)) (stands bytes needle at e) ∙ take_at needle (drop (length needle) (drop at bytes)) (length needle) refl)

-- where the code points of a part stand, its bytes do
place-occurs : (bytes needle : List ℕ) → IsUtf8 bytes → IsUtf8 needle → 0 < length needle → (k : ℕ)
    → occurs_at (chars bytes) (chars needle) k ≡ true → OccursAt bytes needle (text_size (take k (chars bytes)))
place-occurs bytes needle u v some k e =
    let cs = chars bytes in
    let at = text_size (take k cs) in
    let within = stands-within cs (chars needle) k (some-points needle v some) e in
    let before : points_before cs at ≡ k = points_before-size cs k (omega arith) in
    let cut : is_cut cs at ≡ true = eq-eqb (text_size (take (points_before cs at) cs)) at (ap (λ n. text_size (take n cs)) before) in
    bytes-occur bytes needle at some (by-bytes bytes needle u v some at ∙ and_from (is_cut cs at) (occurs_at cs (chars needle) (points_before cs at)) cut (ap (occurs_at cs (chars needle)) before ∙ e))

-- a place that the search by bytes found, in code points
record IsFound (bytes needle : List ℕ) (at p : ℕ) : Type 0 where
  front : IsFront (chars bytes) at p
  here : occurs_at (chars bytes) (chars needle) p ≡ true

found : (bytes needle : List ℕ) → IsUtf8 bytes → IsUtf8 needle → 0 < length needle → (at : ℕ) → OccursAt bytes needle at
    → IsFound bytes needle at (points_before (chars bytes) at)
found bytes needle u v some at h =
    let cs = chars bytes in
    let parts = and_parts (is_cut cs at) (occurs_at cs (chars needle) (points_before cs at)) (sym (by-bytes bytes needle u v some at) ∙ bytes-stand bytes needle at h) in
    record { front = front_at cs at parts.0; here = parts.1 }

is-before : (bytes needle first : List ℕ) (at p : ℕ) → IsUtf8 bytes → IsFound bytes needle at p → first ≡ take at bytes → (length (chars first) ≡ p) × IsBefore bytes (chars needle) first
is-before bytes needle first at p u f e =
    let cs = chars bytes in
    let cut = parted bytes at p u f.front in
    let points : chars first ≡ take p cs = ap chars e ∙ cut.front in
    let place : length (chars first) ≡ p = ap length points ∙ length-take-le p cs f.front.within in
    let within = cut.within in
    let size = ap length e ∙ length-take-le at bytes within in (
      place,
      record {
        here = ap (occurs_at cs (chars needle)) place ∙ f.here;
        front = points ∙ ap (λ k. take k cs) (sym place);
        front_utf8 = subst IsUtf8 (sym e) cut.front_utf8;
        most = omega arith;
      },
    )

-- the place behind a part that was found
behind-front : (bytes needle : List ℕ) (at p : ℕ) → IsUtf8 needle → 0 < length needle → IsFound bytes needle at p → IsFront (chars bytes) (at + length needle) (p + length (chars needle))
behind-front bytes needle at p v some f =
    let cs = chars bytes in
    let part = chars needle in
    let m = length part in
    let stood = stands cs part p f.here in
    let here : take m (drop p cs) ≡ part = ap (take m) stood ∙ take_at part (drop m (drop p cs)) m refl in
    let whole : take (p + m) cs ≡ take p cs ++ part = take-add p m cs ∙ ap (λ t. take p cs ++ t) here in
    let sum = ap text_size whole ∙ text_size-append (take p cs) part in
    let one = f.front.size in
    let two = size-chars needle v in
    record { within = stands-within cs part p (some-points needle v some) f.here; size = omega arith }

pub cut-first : (bytes needle first behind : List ℕ) (at : ℕ) → IsUtf8 bytes → IsUtf8 needle → 0 < length needle
    → NoneBefore (OccursAt bytes needle) 0 (length bytes + 1) at → OccursAt bytes needle at
    → first ≡ take at bytes → behind ≡ drop (length needle) (drop at bytes) → IsCutFirst bytes (chars needle) first behind
cut-first bytes needle first behind at u v some none occurs e f =
    let cs = chars bytes in
    let p = points_before cs at in
    let place = found bytes needle u v some at occurs in
    let front = is-before bytes needle first at p u place e in
    let next = parted bytes (at + length needle) (p + length (chars needle)) u (behind-front bytes needle at p v some place) in
    let rest : behind ≡ drop (at + length needle) bytes = f ∙ drop-drop (length needle) at bytes in
    let fits = occurs.fits in
    let one = ap length e ∙ length-take-le at bytes (omega arith) in
    let two = ap length rest ∙ length-drop (at + length needle) bytes in
    let three = size-chars needle v in
    record {
      place = front.1;
      before = λ k l. false_from_ne_true (occurs_at cs (chars needle) k) (λ h.
          let size = place.front.size in
          let within = place.front.within in
          let low : text_size (take k cs) < at = omega (arith, size-rises cs k p (omega (arith, front.0, l)) within) in
          none.before (text_size (take k cs)) (omega arith) low (place-occurs bytes needle u v some k h));
      back = ap chars rest ∙ next.back ∙ ap (λ n. drop (n + length (chars needle)) cs) (sym front.0);
      back_utf8 = subst IsUtf8 (sym rest) next.back_utf8;
      size = omega arith;
    }

pub cut-last : (bytes needle first : List ℕ) (at : ℕ) → IsUtf8 bytes → IsUtf8 needle → 0 < length needle
    → NoneAfter (OccursAt bytes needle) 0 (length bytes + 1) at → OccursAt bytes needle at
    → first ≡ take at bytes → IsCutLast bytes (chars needle) first
cut-last bytes needle first at u v some none occurs e =
    let cs = chars bytes in
    let p = points_before cs at in
    let place = found bytes needle u v some at occurs in
    let front = is-before bytes needle first at p u place e in
    record {
      place = front.1;
      after = λ k l. false_from_ne_true (occurs_at cs (chars needle) k) (λ h.
          let size = place.front.size in
          let within = stands-within cs (chars needle) k (some-points needle v some) h in
          let stood = place-occurs bytes needle u v some k h in
          let fits = stood.fits in
          let high : at < text_size (take k cs) = omega (arith, size-rises cs p k (omega (arith, front.0, l)) (omega arith)) in
          none.after (text_size (take k cs)) (omega arith) (omega arith) stood);
    }

pub cut-none : (bytes needle : List ℕ) → IsUtf8 bytes → IsUtf8 needle → 0 < length needle → Nowhere (OccursAt bytes needle) 0 (length bytes + 1) → StandsNowhere (chars bytes) (chars needle)
cut-none bytes needle u v some none = λ k. false_from_ne_true (occurs_at (chars bytes) (chars needle) k) (λ h.
    let stood = place-occurs bytes needle u v some k h in
    let fits = stood.fits in
    none (text_size (take k (chars bytes))) (omega arith) (omega arith) stood)
