-- Lists and tests over the numbers of a range.
use Rattle.std.proofs.Common.{◌≡◌, ◌≢◌, ℕ, zero, suc, ◌+◌, ◌<◌, ◌≤◌, nat_eq, Bool, true, false, ◌||◌, List, [], ◌∷◌, map, refl, ap, ◌∙◌, inl, inr, arith}
use Rattle.std.specs.List.{AllByRecursion, IsDistinct, list_all, list_any, range_with_len}
use Rattle.std.proofs.lemmas.Bool.{and_from, and_parts, or_from, or_left, or_right, ne_eqb, cases_lt}

-- a test of all numbers of a range
pub each-in_range : (p : ℕ → Bool) (a n : ℕ) → ((k : ℕ) → a ≤ k → k < a + n → p k ≡ true) → list_all p (range_with_len a n) ≡ true
each-in_range p a zero each = refl
each-in_range p a (suc n) each = and_from (p a) (list_all p (range_with_len (a + 1) n)) (each a (omega arith) (omega arith)) (each-in_range p (a + 1) n (λ k l h. each k (omega arith) (omega arith)))

pub all-in_range : (p : ℕ → Bool) (a n : ℕ) → list_all p (range_with_len a n) ≡ true → (k : ℕ) → a ≤ k → k < a + n → p k ≡ true
all-in_range p a zero all k l h = absurd (omega arith)
all-in_range p a (suc n) all k l h = let both = and_parts (p a) (list_all p (range_with_len (a + 1) n)) all in elim (cases_lt a k) [
  | inl later ↦ all-in_range p (a + 1) n both.1 k (omega arith) (omega arith)
  | inr first ↦ let is : k ≡ a = omega arith in ap p is ∙ both.0
]

-- a test of one of them
pub any-in_range : (p : ℕ → Bool) (a n k : ℕ) → a ≤ k → k < a + n → p k ≡ true → list_any p (range_with_len a n) ≡ true
any-in_range p a zero k l h passes = absurd (omega arith)
any-in_range p a (suc n) k l h passes = elim (cases_lt a k) [
  | inl later ↦ or_right (p a) (list_any p (range_with_len (a + 1) n)) (any-in_range p (a + 1) n k (omega arith) (omega arith) passes)
  | inr first ↦ let is : a ≡ k = omega arith in or_left (p a) (list_any p (range_with_len (a + 1) n)) (ap p is ∙ passes)
]

pub none-in_range : (p : ℕ → Bool) (a n : ℕ) → ((k : ℕ) → a ≤ k → k < a + n → p k ≡ false) → list_any p (range_with_len a n) ≡ false
none-in_range p a zero none = refl
none-in_range p a (suc n) none = or_from (p a) (list_any p (range_with_len (a + 1) n)) (none a (omega arith) (omega arith)) (none-in_range p (a + 1) n (λ k l h. none k (omega arith) (omega arith)))

-- two tests that agree there
pub any-alike : (p q : ℕ → Bool) (a n : ℕ) → ((k : ℕ) → a ≤ k → k < a + n → p k ≡ q k) → list_any p (range_with_len a n) ≡ list_any q (range_with_len a n)
any-alike p q a zero alike = refl
any-alike p q a (suc n) alike =
    ap (λ b. b || list_any p (range_with_len (a + 1) n)) (alike a (omega arith) (omega arith)) ∙ ap (λ b. q a || b) (any-alike p q (a + 1) n (λ k l h. alike k (omega arith) (omega arith)))

pub any-map : {A B : Type 0} (p : B → Bool) (f : A → B) (xs : List A) → list_any p (map f xs) ≡ list_any (λ x. p (f x)) xs
any-map p f [] = refl
any-map p f (x ∷ xs) = ap (λ b. p (f x) || b) (any-map p f xs)

-- what a function gives of a range: all below a bound, and none twice
pub below-map : (f : ℕ → ℕ) (bound a n : ℕ) → ((k : ℕ) → a ≤ k → k < a + n → f k < bound) → AllByRecursion (λ p. p < bound) (map f (range_with_len a n))
below-map f bound a zero below = tt
below-map f bound a (suc n) below = (below a (omega arith) (omega arith), below-map f bound (a + 1) n (λ k l h. below k (omega arith) (omega arith)))

other-map : (f : ℕ → ℕ) (p a n : ℕ) → ((k : ℕ) → a ≤ k → k < a + n → p ≢ f k) → AllByRecursion (λ q. nat_eq p q ≡ false) (map f (range_with_len a n))
other-map f p a zero other = tt
other-map f p a (suc n) other = (ne_eqb p (f a) (other a (omega arith) (omega arith)), other-map f p (a + 1) n (λ k l h. other k (omega arith) (omega arith)))

pub distinct-map : (f : ℕ → ℕ) (a n : ℕ) → ((j k : ℕ) → a ≤ j → j < k → k < a + n → f j ≢ f k) → IsDistinct nat_eq (map f (range_with_len a n))
unfolding IsDistinct
distinct-map f a zero apart = tt
distinct-map f a (suc n) apart = (other-map f (f a) (a + 1) n (λ k l h. apart a k (omega arith) (omega arith) (omega arith)), distinct-map f (a + 1) n (λ j k l m h. apart j k (omega arith) m (omega arith)))
