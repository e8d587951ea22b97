-- Bytes that are cut at marks, and the digits of small numbers.
use Rattle.std.proofs.Common.{◌≡◌, ℕ, zero, suc, ◌-◌, ◌<◌, ◌==◌, Bool, true, false, ◌&&◌, not, List, [], ◌∷◌, ◌++◌, length, position, Some, pos, refl, sym, ap, ap₂, subst, ◌∙◌, inl, inr, arith, decimal, length-append}
use Rattle.std.specs.Fmt.{digits}
use Rattle.std.specs.List.{list_all, list_any, prefix_len}
use Rattle.std.proofs.Math.Seq.{take-append_seam, drop-append-add, get_or-append_seam}
use Rattle.std.proofs.lemmas.Bool.{and_parts, and_from, lt-ltb, eq-eqb, cases_lt, cases_Bool, false≢true}
use Rattle.std.proofs.lemmas.List.Folds.{list_all-append}
use Rattle.sa_lines.specs.Numbers.{number_of}
use Rattle.sa_lines.proofs.NumberLaws.{decimal_again}
use Rattle.sa_script.specs.Views.{cut_at, parted, inside_of}
use Rattle.sa_sample.proofs.TokenLemmas.{is_inner}

-- a test passes at each number below this one
abbrev pub passes_below : (ℕ → Bool) → ℕ → Bool
passes_below test zero = true
passes_below test (suc n) = test n && passes_below test n

-- so it passes at each of them
pub passes : (test : ℕ → Bool) (n k : ℕ) → passes_below test n ≡ true → k < n → test k ≡ true
passes test zero k h below = absurd (omega arith)
passes test (suc n) k h below = elim (cases_lt k n) [
  | inl less ↦ passes test n k (and_parts (test n) (passes_below test n) h).1 less
  | inr last ↦ let same : n ≡ k = omega arith in subst (λ m. test m ≡ true) same (and_parts (test n) (passes_below test n) h).0
]

-- no byte is this mark
abbrev pub lacks : ℕ → List ℕ → Bool
lacks mark bytes = list_all (λ b. not (b == mark)) bytes

-- the first mark stands behind bytes that lack it
prefix_len-lacks : (mark : ℕ) (front rest : List ℕ) → lacks mark front ≡ true → prefix_len (λ b. not (b == mark)) (front ++ mark ∷ rest) ≡ length front
prefix_len-lacks mark [] rest h = let same = eq-eqb mark mark refl in rw same refl
prefix_len-lacks mark (b ∷ bs) rest h =
    let parts = and_parts (not (b == mark)) (lacks mark bs) h in
    rw parts.0 (omega (arith, prefix_len-lacks mark bs rest parts.1))

-- so it is found there
position-mark : (mark : ℕ) (front rest : List ℕ) → lacks mark front ≡ true → position (λ b. b == mark) (front ++ mark ∷ rest) ≡ Some (length front)
position-mark mark front rest h =
    let at = prefix_len-lacks mark front rest h in
    let below = lt-ltb (length front) (length (front ++ mark ∷ rest)) (omega (arith, length-append front (mark ∷ rest))) in
    rw (at, below) refl

-- bytes are cut at the first mark
pub cut_at-mark : (mark : ℕ) (front rest : List ℕ) → lacks mark front ≡ true → cut_at mark (front ++ mark ∷ rest) ≡ (front, Some rest)
cut_at-mark mark front rest h =
    ap (parted (front ++ mark ∷ rest)) (position-mark mark front rest h)
    ∙ ap₂ (λ (a b : List ℕ). (a, Some b)) (take-append_seam front (mark ∷ rest)) (drop-append-add front (mark ∷ rest) 1)

-- what stands in front of the closing bracket
pub inside_of-bracket : (inner : List ℕ) → inside_of (inner ++ 93 ∷ []) ≡ Some inner
inside_of-bracket inner =
    let last : length (inner ++ 93 ∷ []) - 1 ≡ length inner = omega (arith, length-append inner (93 ∷ [])) in
    rw (last, get_or-append_seam inner 93 [] 0, take-append_seam inner (93 ∷ [])) refl

-- two lists of such bytes in a row
pub inner-append : (xs ys : List ℕ) → list_all is_inner xs ≡ true → list_all is_inner ys ≡ true → list_all is_inner (xs ++ ys) ≡ true
inner-append xs ys h i = list_all-append is_inner xs ys ∙ and_from (list_all is_inner xs) (list_all is_inner ys) h i

pub lacks-append : (mark : ℕ) (xs ys : List ℕ) → lacks mark xs ≡ true → lacks mark ys ≡ true → lacks mark (xs ++ ys) ≡ true
lacks-append mark xs ys h i = list_all-append (λ b. not (b == mark)) xs ys ∙ and_from (lacks mark xs) (lacks mark ys) h i

-- no byte that lacks a mark is it
pub none-lacks : (mark : ℕ) (bytes : List ℕ) → lacks mark bytes ≡ true → list_any (λ b. b == mark) bytes ≡ false
none-lacks mark [] h = refl
none-lacks mark (b ∷ bs) h =
    let parts = and_parts (not (b == mark)) (lacks mark bs) h in
    elim (cases_Bool (b == mark)) [
      | inl t ↦ absurd (false≢true (sym (ap not t) ∙ parts.0))
      | inr f ↦ rw f (none-lacks mark bs parts.1)
    ]

-- the digits of a small number lack each mark of a view
pub lacks-comma : (k : ℕ) → k < 33 → lacks 44 (decimal k) ≡ true
unfolding digits
lacks-comma k below = passes (λ n. lacks 44 (decimal n)) 33 k refl below

pub lacks-colon : (k : ℕ) → k < 33 → lacks 58 (decimal k) ≡ true
unfolding digits
lacks-colon k below = passes (λ n. lacks 58 (decimal n)) 33 k refl below

pub lacks-bracket : (k : ℕ) → k < 33 → lacks 91 (decimal k) ≡ true
unfolding digits
lacks-bracket k below = passes (λ n. lacks 91 (decimal n)) 33 k refl below

-- and they end no token
pub inner-digits : (k : ℕ) → k < 33 → list_all is_inner (decimal k) ≡ true
unfolding digits
inner-digits k below = passes (λ n. list_all is_inner (decimal n)) 33 k refl below

-- a small number is read again
pub small-number : (k : ℕ) → k < 33 → number_of (decimal k) ≡ Some (Some (pos k))
small-number k below = decimal_again (pos k) (omega arith)
