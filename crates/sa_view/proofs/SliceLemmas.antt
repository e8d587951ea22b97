-- Steps from one number up to another, how many they are, and slices.
use Rattle.std.proofs.Common.{◌≡◌, ◌≢◌, ℕ, zero, suc, ◌+◌, ◌-◌, ◌*◌, ◌/◌, ◌%◌, ◌<◌, ◌≤◌, ◌==◌, nat_lt, min, Bool, true, false, cond, List, [], ◌∷◌, Option, Some, None, refl, sym, ap, ◌∙◌, inl, inr, arith, ℤ, pos, negsuc}
use Rattle.std.specs.Prelude.{count_by}
use Rattle.std.specs.List.{list_any, range_with_len}
use Rattle.std.specs.Prelude.{unsigned_abs}
use Rattle.std.specs.Prelude.{int_lt}
use Rattle.std.proofs.Math.Nat.{mul-le-mul_right, div-add-mod', div-mul-le_self, div-le_self, div-lt_iff_lt-mul, mul-mod_left, mul-div_left}
use Rattle.std.proofs.lemmas.Bool.{cases_lt, cond-true, cond-false, lt-ltb, le-ltb, le-leb, eq-eqb, ne_eqb, ltb-false, false≢true}
use Rattle.std.proofs.lemmas.List.Recursion.{is_count_by}
use Rattle.sa_view.specs.Slices.{bound_up, bound_down, count_up, slice_of, slice_view}
use Rattle.sa_view.specs.Views.{fits, is_within, is_zero}
use Rattle.sa_view.proofs.RangeLemmas.{each-in_range, any-in_range, none-in_range}
use Rattle.sa_view.proofs.ViewLemmas.{down-is, stepped}

-- whether so many steps reach a number, where it is below, or not a whole number of steps away, or is
pub reaches-not_down : (low high stride count : ℕ) → high < low → list_any (λ k. low + k * stride == high) (range_with_len 0 count) ≡ false
reaches-not_down low high stride count below = none-in_range (λ k. low + k * stride == high) 0 count (λ k l h. ne_eqb (low + k * stride) high (λ is. omega arith))

pub reaches-not_over : (low high stride count : ℕ) → low ≤ high → (high - low) % stride ≢ 0 → list_any (λ k. low + k * stride == high) (range_with_len 0 count) ≡ false
reaches-not_over low high stride count above over = none-in_range (λ k. low + k * stride == high) 0 count
    (λ k l h. ne_eqb (low + k * stride) high (λ is. let far : high - low ≡ k * stride = omega arith in over (ap (λ d. d % stride) far ∙ mul-mod_left k stride)))

pub reaches-within : (low high stride count : ℕ) → 0 < stride → low ≤ high → (high - low) % stride ≡ 0 → nat_lt ((high - low) / stride) count ≡ list_any (λ k. low + k * stride == high) (range_with_len 0 count)
reaches-within low high stride count some above whole = elim (cases_lt ((high - low) / stride) count) [
  | inl enough ↦
      lt-ltb ((high - low) / stride) count enough ∙ sym (any-in_range (λ k. low + k * stride == high) 0 count ((high - low) / stride) (omega arith) (omega arith)
      (eq-eqb (low + (high - low) / stride * stride) high (omega (arith, div-add-mod' (high - low) stride))))
  | inr few ↦
      le-ltb ((high - low) / stride) count few ∙ sym (none-in_range (λ k. low + k * stride == high) 0 count
      (λ k l h. ne_eqb (low + k * stride) high (λ is. let far : high - low ≡ k * stride = omega arith in let at : (high - low) / stride ≡ k = ap (λ d. d / stride) far ∙ mul-div_left k some in omega arith)))
]

-- a count of what passes, by recursion; it is m, where just the numbers below m pass
tally : (ℕ → Bool) → List ℕ → ℕ
tally p [] = 0
tally p (k ∷ ks) = cond (p k) (1 + tally p ks) (tally p ks)

tally-below : (p : ℕ → Bool) (m a n : ℕ) → ((k : ℕ) → k < m → p k ≡ true) → ((k : ℕ) → m ≤ k → p k ≡ false) → tally p (range_with_len a n) ≡ min n (m - a)
unfolding tally
tally-below p m a zero passes fails = omega arith
tally-below p m a (suc n) passes fails =
    let later = tally-below p m (a + 1) n passes fails in
    elim (cases_lt a m) [
      | inl below ↦ cond-true (p a) (1 + tally p (range_with_len (a + 1) n)) (tally p (range_with_len (a + 1) n)) (passes a below) ∙ omega arith
      | inr above ↦ cond-false (p a) (1 + tally p (range_with_len (a + 1) n)) (tally p (range_with_len (a + 1) n)) (fails a above) ∙ omega arith
    ]

count-below : (p : ℕ → Bool) (m n : ℕ) → m ≤ n → ((k : ℕ) → k < m → p k ≡ true) → ((k : ℕ) → m ≤ k → p k ≡ false) → m ≡ count_by p (range_with_len 0 n)
unfolding tally
count-below p m n room passes fails =
    let counted = is_count_by (tally p) p refl (λ k ks. refl) (range_with_len 0 n) in
    omega (arith, counted, tally-below p m 0 n passes fails)

-- a step that is counted is below the end, and one that is not counted is not
steps-below : (s e c k : ℕ) → s < e → k < (e - s - 1) / c + 1 → s + k * c < e
steps-below s e c k some before =
    let least : k ≤ (e - s - 1) / c = omega arith in
    omega (arith, mul-le-mul_right c least, div-mul-le_self (e - s - 1) c)

steps-above : (s e c k : ℕ) → 0 < c → (e - s - 1) / c + 1 ≤ k → e ≤ s + k * c
steps-above s e c k some behind = let far : e - s - 1 < k * c = (div-lt_iff_lt-mul some).0 (omega arith) in omega arith

pub count_up-some : (n s e c : ℕ) → 0 < c → s < e → e ≤ n → (e - s - 1) / c + 1 ≡ count_up n s e c
count_up-some n s e c some before room = count-below (λ k. nat_lt (s + k * c) e) ((e - s - 1) / c + 1) n (omega (arith, div-le_self (e - s - 1) c))
    (λ k h. lt-ltb (s + k * c) e (steps-below s e c k before h))
    (λ k h. le-ltb (s + k * c) e (steps-above s e c k some h))

pub count_up-none : (n s e c : ℕ) → e ≤ s → 0 ≡ count_up n s e c
count_up-none n s e c behind = count-below (λ k. nat_lt (s + k * c) e) 0 n (omega arith) (λ k h. absurd (omega arith)) (λ k h. le-ltb (s + k * c) e (omega arith))

counted-below : (n s e c k : ℕ) → 0 < c → e ≤ n → k < count_up n s e c → s + k * c < e
counted-below n s e c k some room counted = elim (cases_lt s e) [
  | inl before ↦ steps-below s e c k before (omega (arith, count_up-some n s e c some before room))
  | inr behind ↦ absurd (omega (arith, count_up-none n s e c behind))
]

-- bounds are within the array
bound_up-within : (n without : ℕ) (a : Option ℤ) → without ≤ n → bound_up n without a ≤ n
bound_up-within n without None room = room
bound_up-within n without (Some (pos a)) room = omega arith
bound_up-within n without (Some (negsuc a)) room = omega arith

bound_down-within : (n without : ℕ) (a : Option ℤ) → without ≤ n → bound_down n without a ≤ n
bound_down-within n without None room = room
bound_down-within n without (Some (pos a)) room = omega arith
bound_down-within n without (Some (negsuc a)) room = omega arith

view-fits : (array n start count : ℕ) (step : ℤ) → is_zero step ≡ false → ((k : ℕ) → k < count → is_within n (stepped start step k) ≡ true) → fits n (slice_view array start count step) ≡ true
view-fits array n start zero step steps within = rw steps (le-leb 0 n (omega arith))
view-fits array n start (suc count) step steps within =
    rw (steps, ne_eqb (suc count) 0 (λ none. omega arith)) (each-in_range (λ k. is_within n (stepped start step k)) 0 (suc count) (λ k l h. within k (omega arith)))

pub slice-fits : (array n : ℕ) (a b : Option ℤ) (c : ℤ) → c ≢ pos 0 → fits n (slice_of array n a b c) ≡ true
slice-fits array n a b (pos c) steps =
    let s = bound_up n 0 a in
    let e = bound_up n n b in
    let room = bound_up-within n n b (omega arith) in
    let on : c ≢ 0 = λ is. steps (ap pos is) in
    view-fits array n s (count_up n s e c) (pos c) (ne_eqb c 0 on)
    (λ k h. lt-ltb (s + k * c) n (omega (arith, counted-below n s e c k (omega arith) room h)))
slice-fits array n a b (negsuc c) steps =
    let s = bound_down n n a in
    let e = bound_down n 0 b in
    let room = bound_down-within n n a (omega arith) in
    view-fits array n (s - 1) (count_up n e s (c + 1)) (negsuc c) refl
    (λ k h. let above = counted-below n e s (c + 1) k (omega arith) room h in
    ap (is_within n) (down-is (s - 1) (k * suc c) (omega arith)) ∙ lt-ltb (s - 1 - k * suc c) n (omega arith))

-- a slice by the size of its step
pub slice-forth : (array n stride : ℕ) (a b : Option ℤ) (c : ℤ) → stride ≡ unsigned_abs c → int_lt (pos 0) c ≡ true → slice_view array (bound_up n 0 a) (count_up n (bound_up n 0 a) (bound_up n n b) stride) c ≡ slice_of array n a b c
slice-forth array n stride a b (pos c) size forth = ap (λ d. slice_view array (bound_up n 0 a) (count_up n (bound_up n 0 a) (bound_up n n b) d) (pos c)) size
slice-forth array n stride a b (negsuc c) size forth = absurd (false≢true forth)

pub slice-back : (array n stride : ℕ) (a b : Option ℤ) (c : ℤ) → c ≢ pos 0 → stride ≡ unsigned_abs c → int_lt (pos 0) c ≡ false → slice_view array (bound_down n n a - 1) (count_up n (bound_down n 0 b) (bound_down n n a) stride) c ≡ slice_of array n a b c
slice-back array n stride a b (pos c) on size back = absurd (on (ap pos (omega (arith, ltb-false 0 c back))))
slice-back array n stride a b (negsuc c) on size back =
    let same : stride ≡ c + 1 = omega (arith, size) in ap (λ d. slice_view array (bound_down n n a - 1) (count_up n (bound_down n 0 b) (bound_down n n a) d) (negsuc c)) same
