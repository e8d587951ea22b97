-- Texts that begin and end with others, by their UTF-8.
use Rattle.std.proofs.Common.{◌≡◌, ◌+◌, ◌-◌, ◌&&◌, ℕ, Bool, true, false, leb, List, [], ◌∷◌, ◌++◌, length, take, drop, refl, sym, ap, ap₂, ◌∙◌, arith, nat_eq, IsUtf8, append-nil, take-append-drop, length-append, length-drop, drop_at}
use Rattle.std.specs.List.{starts_with, ends_with}
use Rattle.std.specs.Str.{chars}
use Rattle.std.proofs.Math.Utf8.{encodes}
use Rattle.std.proofs.lemmas.Bool.{le-leb, leb-true, and_from, and_parts}
use Rattle.std.proofs.lemmas.Bool.Decides.{Decides-eqb}
use Rattle.std.proofs.lemmas.List.{nil_from_length}
use Rattle.std.proofs.lemmas.Slice.Eq.{ends_is}
use Rattle.std.proofs.lemmas.Str.{encodes-append, encodes-chars}
use Rattle.sa_text.specs.Points.{is_cut, occurs_at, points_before}
use Rattle.sa_text.specs.Texts.{text_size}
use Rattle.sa_text.proofs.PointLemmas.{front_at, text_size-append}
use Rattle.sa_text.proofs.SearchLemmas.{searches, starts-encodes}
use Rattle.sa_search.specs.Cuts.{IsWindow}
use Rattle.sa_search.specs.Finds.{occurs}
use Rattle.sa_search.proofs.CutLemmas.{stands, stands-from}
use Rattle.sa_search.proofs.WindowLemmas.{occurs-window, window-length, empty-part}

pub starts-window : (a b : List ℕ) (s e first : ℕ) (bytes needle : List ℕ) → IsWindow a s e first bytes → IsUtf8 needle → chars needle ≡ b
    → starts_with nat_eq bytes needle ≡ occurs a b s e s
starts-window a b s e first bytes needle w v same =
    let zero : s + 0 ≡ s = omega arith in
    let order = w.order in
    sym (ap₂ (starts_with nat_eq) (encodes-chars bytes w.utf8) (encodes-chars needle v))
    ∙ starts-encodes (chars bytes) (chars needle)
    ∙ ap₂ (starts_with nat_eq) w.points same
    ∙ sym (occurs-window a b s e 0 order (λ none. omega arith))
    ∙ ap (occurs a b s e) zero

-- UTF-8 that ends with that of a text is that of a text that ends with it
record IsEnd (text end : List ℕ) : Type 0 where
  front : List ℕ
  is : text ≡ front ++ end

end-from : (xs ys front : List ℕ) → encodes xs ≡ front ++ encodes ys → IsEnd xs ys
end-from xs [] front e = record { front = xs; is = sym (append-nil xs) }
end-from xs (d ∷ ds) front e =
    let ys = d ∷ ds in
    let at = length front in
    let p = points_before xs at in
    let bytes : drop at (encodes xs) ≡ encodes ys ++ [] = ap (drop at) e ∙ drop_at front (encodes ys) at refl ∙ sym (append-nil (encodes ys)) in
    let both = and_parts (is_cut xs at) (occurs_at xs ys p) (sym (searches xs ys (omega arith) at) ∙ stands-from (encodes xs) (encodes ys) [] at bytes) in
    let place = front_at xs at both.0 in
    let rest = drop (length ys) (drop p xs) in
    let stood = stands xs ys p both.1 in
    let whole = ap length e ∙ length-append front (encodes ys) in
    let parts = sym (ap text_size (take-append-drop p xs)) ∙ text_size-append (take p xs) (drop p xs) in
    let behind = ap text_size stood ∙ text_size-append ys rest in
    let size = place.size in
    let none = (empty-part rest (omega arith)).none in
    record { front = take p xs; is = sym (take-append-drop p xs) ∙ ap (λ t. take p xs ++ t) (stood ∙ ap (λ t. ys ++ t) none ∙ append-nil ys) }

bool-same : (x y : Bool) → (x ≡ true → y ≡ true) → (y ≡ true → x ≡ true) → x ≡ y
bool-same true y f g = sym (f refl)
bool-same false true f g = g refl
bool-same false false f g = refl

module _ (a b : List ℕ) (s e first : ℕ) (bytes needle : List ℕ) (w : IsWindow a s e first bytes) (v : IsUtf8 needle) (same : chars needle ≡ b) where
  ends-points : ends_with nat_eq bytes needle ≡ true → (leb (s + length b) e && occurs a b s e (e - length b)) ≡ true
  ends-points h =
      let cut = (ends_is Decides-eqb bytes needle (ends_with nat_eq bytes needle) refl).0 h in
      let front = take (length bytes - length needle) bytes in
      let text = end-from (chars bytes) (chars needle) front (encodes-chars bytes w.utf8 ∙ cut ∙ ap (λ t. front ++ t) (sym (encodes-chars needle v))) in
      let j = length text.front in
      let is : chars bytes ≡ text.front ++ b = text.is ∙ ap (λ t. text.front ++ t) same in
      let order = w.order in
      let size = window-length a b s e first bytes w in
      let sum = ap length is ∙ length-append text.front b in
      let place : s + j ≡ e - length b = omega arith in
      let stood : occurs_at (chars bytes) b j ≡ true = stands-from (chars bytes) b [] j (ap (drop j) is ∙ drop_at text.front b j refl ∙ sym (append-nil b)) in
      and_from (leb (s + length b) e) (occurs a b s e (e - length b)) (le-leb (s + length b) e (omega arith))
      (ap (occurs a b s e) (sym place) ∙ occurs-window a b s e j order (λ none. omega arith) ∙ sym (ap (λ xs. occurs_at xs b j) w.points) ∙ stood)

  ends-bytes : (leb (s + length b) e && occurs a b s e (e - length b)) ≡ true → ends_with nat_eq bytes needle ≡ true
  ends-bytes h =
      let both = and_parts (leb (s + length b) e) (occurs a b s e (e - length b)) h in
      let fits = leb-true (s + length b) e both.0 in
      let order = w.order in
      let j = e - length b - s in
      let place : s + j ≡ e - length b = omega arith in
      let stood : occurs_at (chars bytes) b j ≡ true =
      ap (λ xs. occurs_at xs b j) w.points ∙ sym (occurs-window a b s e j order (λ none. omega arith)) ∙ ap (occurs a b s e) place ∙ both.1 in
      let size = window-length a b s e first bytes w in
      let cs = chars bytes in
      let rest = drop (length b) (drop j cs) in
      let cut = stands cs b j stood in
      let sum = ap length cut ∙ length-append b rest in
      let left = length-drop j cs in
      let none : rest ≡ [] = nil_from_length rest (omega arith) in
      let is : cs ≡ take j cs ++ b = sym (take-append-drop j cs) ∙ ap (λ t. take j cs ++ t) (cut ∙ ap (λ t. b ++ t) none ∙ append-nil b) in
      (ends_is Decides-eqb bytes needle (ends_with nat_eq bytes needle) refl).1 (encodes (take j cs))
      (sym (encodes-chars bytes w.utf8) ∙ ap encodes is ∙ encodes-append (take j cs) b ∙ ap (λ t. encodes (take j cs) ++ t) (ap encodes (sym same) ∙ encodes-chars needle v))

  pub ends-window : ends_with nat_eq bytes needle ≡ (leb (s + length b) e && occurs a b s e (e - length b))
  ends-window = bool-same (ends_with nat_eq bytes needle) (leb (s + length b) e && occurs a b s e (e - length b)) ends-points ends-bytes
