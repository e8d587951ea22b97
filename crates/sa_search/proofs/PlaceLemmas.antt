-- The least and the greatest place that passes: which it is, and where there is none. Over lists alone.
use Rattle.std.proofs.Common.{◌≡◌, ◌≤◌, ◌<◌, ◌+◌, ℕ, zero, suc, Bool, true, false, List, length, Option, Some, None, refl, sym, ap, ◌∙◌, inl, inr, arith}
use Rattle.std.specs.Prelude.{◌↔◌, option_map, is_some, ℤ, pos, negsuc, IsNone}
use Rattle.std.proofs.lemmas.Bool.{cases_lt, cases_Bool, cond-true, cond-false}
use Rattle.sa_search.specs.Finds.{occurs, least, greatest, first_place, last_place, or_minus_one}

-- the least that passes
pub least-at : (test : ℕ → Bool) (n low p : ℕ) → low ≤ p → p < low + n → test p ≡ true → ((q : ℕ) → q < p → test q ≡ false) → least test low n ≡ Some p
least-at test zero low p h l here before = absurd (omega arith)
least-at test (suc n) low p h l here before = elim (cases_lt low p) [
  | inl below ↦ cond-false (test low) (Some low) (least test (low + 1) n) (before low below) ∙ least-at test n (low + 1) p (omega arith) (omega arith) here before
  | inr above ↦ let e : low ≡ p = omega arith in cond-true (test low) (Some low) (least test (low + 1) n) (ap test e ∙ here) ∙ ap Some e
]

least-empty : (test : ℕ → Bool) (n low : ℕ) → ((q : ℕ) → low ≤ q → q < low + n → test q ≡ false) → least test low n ≡ None
least-empty test zero low none = refl
least-empty test (suc n) low none =
    cond-false (test low) (Some low) (least test (low + 1) n) (none low (omega arith) (omega arith)) ∙ least-empty test n (low + 1) (λ q h l. none q (omega arith) (omega arith))

pub least-none : (test : ℕ → Bool) (n low : ℕ) → ((q : ℕ) → test q ≡ false) → least test low n ≡ None
least-none test n low none = least-empty test n low (λ q h l. none q)

pub least-nowhere : (test : ℕ → Bool) (n low q : ℕ) → least test low n ≡ None → low ≤ q → q < low + n → test q ≡ false
least-nowhere test zero low q e h l = absurd (omega arith)
least-nowhere test (suc n) low q e h l = elim (cases_Bool (test low)) [
  | inl t ↦ let f = sym (cond-true (test low) (Some low) (least test (low + 1) n) t) ∙ e in cc
  | inr t ↦ elim (cases_lt low q) [
    | inl above ↦ least-nowhere test n (low + 1) q (sym (cond-false (test low) (Some low) (least test (low + 1) n) t) ∙ e) (omega arith) (omega arith)
    | inr here ↦ let same : q ≡ low = omega arith in ap test same ∙ t
  ]
]

pub record IsLeast (test : ℕ → Bool) (low p : ℕ) : Type 0 where
  pub here : test p ≡ true
  pub above : low ≤ p
  pub before : (q : ℕ) → low ≤ q → q < p → test q ≡ false

pub least-some : (test : ℕ → Bool) (n low p : ℕ) → least test low n ≡ Some p → IsLeast test low p
least-some test zero low p e = cc
least-some test (suc n) low p e = elim (cases_Bool (test low)) [
  | inl t ↦
      let f = sym (cond-true (test low) (Some low) (least test (low + 1) n) t) ∙ e in
      let same : low ≡ p = cc in
      record { here = ap test (sym same) ∙ t; above = omega arith; before = λ q h l. absurd (omega arith) }
  | inr t ↦
      let more = least-some test n (low + 1) p (sym (cond-false (test low) (Some low) (least test (low + 1) n) t) ∙ e) in
      let above = more.above in
      record {
        here = more.here;
        above = omega arith;
        before = λ q h l. elim (cases_lt low q) [
          | inl higher ↦ more.before q (omega arith) l
          | inr here ↦ let same : q ≡ low = omega arith in ap test same ∙ t
        ];
      }
]

-- the greatest that passes
pub greatest-at : (test : ℕ → Bool) (n p : ℕ) → p < n → test p ≡ true → ((q : ℕ) → p < q → test q ≡ false) → greatest test n ≡ Some p
greatest-at test zero p l here after = absurd (omega arith)
greatest-at test (suc n) p l here after = elim (cases_lt p n) [
  | inl below ↦ cond-false (test n) (Some n) (greatest test n) (after n below) ∙ greatest-at test n p below here after
  | inr above ↦ let e : n ≡ p = omega arith in cond-true (test n) (Some n) (greatest test n) (ap test e ∙ here) ∙ ap Some e
]

greatest-empty : (test : ℕ → Bool) (n : ℕ) → ((q : ℕ) → q < n → test q ≡ false) → greatest test n ≡ None
greatest-empty test zero none = refl
greatest-empty test (suc n) none = cond-false (test n) (Some n) (greatest test n) (none n (omega arith)) ∙ greatest-empty test n (λ q l. none q (omega arith))

pub greatest-none : (test : ℕ → Bool) (n : ℕ) → ((q : ℕ) → test q ≡ false) → greatest test n ≡ None
greatest-none test n none = greatest-empty test n (λ q l. none q)

greatest-nowhere : (test : ℕ → Bool) (n q : ℕ) → greatest test n ≡ None → q < n → test q ≡ false
greatest-nowhere test zero q e l = absurd (omega arith)
greatest-nowhere test (suc n) q e l = elim (cases_Bool (test n)) [
  | inl t ↦ let f = sym (cond-true (test n) (Some n) (greatest test n) t) ∙ e in cc
  | inr t ↦ elim (cases_lt q n) [
    | inl below ↦ greatest-nowhere test n q (sym (cond-false (test n) (Some n) (greatest test n) t) ∙ e) below
    | inr here ↦ let same : q ≡ n = omega arith in ap test same ∙ t
  ]
]

-- there is a first place exactly where there is a last one
first-from-last : (a b : List ℕ) (s e : ℕ) → last_place a b s e ≡ None → first_place a b s e ≡ None
first-from-last a b s e none =
    least-empty (occurs a b s e) (length a + 1) 0 (λ q h l. greatest-nowhere (occurs a b s e) (length a + 1) q none (omega arith))

last-from-first : (a b : List ℕ) (s e : ℕ) → first_place a b s e ≡ None → last_place a b s e ≡ None
last-from-first a b s e none =
    greatest-empty (occurs a b s e) (length a + 1) (λ q l. least-nowhere (occurs a b s e) (length a + 1) 0 q none (omega arith) (omega arith))

-- -1 stands for no place
minus_one-none : (place : Option ℕ) → or_minus_one place ≡ negsuc 0 → place ≡ None
minus_one-none None e = refl
minus_one-none (Some p) e = cc

map-none : (place : Option ℕ) → IsNone (option_map pos place) → place ≡ None
map-none None h = refl
map-none (Some p) h = cc

pub first-missing : (a b : List ℕ) (s e : ℕ) (found : Option ℤ) → found ≡ option_map pos (first_place a b s e)
    → IsNone found ↔ (or_minus_one (first_place a b s e) ≡ negsuc 0)
first-missing a b s e found is = (
  λ h. ap or_minus_one (map-none (first_place a b s e) (ap is_some (sym is) ∙ h)),
  λ h. ap is_some (is ∙ ap (option_map pos) (minus_one-none (first_place a b s e) h)),
)

pub last-missing : (a b : List ℕ) (s e : ℕ) (found : Option ℤ) → found ≡ option_map pos (last_place a b s e)
    → IsNone found ↔ (or_minus_one (first_place a b s e) ≡ negsuc 0)
last-missing a b s e found is = (
  λ h. ap or_minus_one (first-from-last a b s e (map-none (last_place a b s e) (ap is_some (sym is) ∙ h))),
  λ h. ap is_some (is ∙ ap (option_map pos) (last-from-first a b s e (minus_one-none (first_place a b s e) h))),
)
