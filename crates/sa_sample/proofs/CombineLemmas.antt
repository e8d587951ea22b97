-- The rules and the counts of a sample's calls combine.
use Rattle.std.proofs.Common.{◌≡◌, ℕ, ◌+◌, ◌*◌, ◌<◌, ◌==◌, true, false, List, [], ◌∷◌, Some, refl, sym, ap, subst, ◌∙◌, inl, inr}
use Rattle.std.specs.Prelude.{is_ok}
use Rattle.std.proofs.lemmas.Bool.{cases_Bool, eq-eqb, eqb-true}
use Rattle.sa_view.specs.Broadcasts.{broadcast}
use Rattle.sa_view.specs.declared.view.View.{View}
use Rattle.sa_descr.specs.Rules.{combination, rules_of}
use Rattle.sa_call.specs.Calls.{is_length_of, strings_homes}
use Rattle.sa_sample.proofs.DeclarationLemmas.{declared, descrs}
use Rattle.sa_sample.proofs.MeantLemmas.{below-four}

-- the rules of two arrays' descriptors combine
abbrev pub Combine : ℕ → ℕ → Type 0
Combine a b = is_ok (combination (rules_of descrs (strings_homes declared (a ∷ b ∷ [])))) ≡ true

abbrev pub CombineTexts : ℕ → ℕ → Type 0
CombineTexts a b = Combine (2 * a) (2 * b)

abbrev pub CombineIntegers : ℕ → ℕ → Type 0
CombineIntegers a b = Combine (2 * a) (2 * b + 1)

-- those of any two arrays of strings, and of one of strings and one of numbers
pub rules-both : (a b : ℕ) → a < 4 → b < 4 → CombineTexts a b
rules-both a b first second =
    below-four (λ k. CombineTexts k b)
    (below-four (CombineTexts 0) refl refl refl refl b second) (below-four (CombineTexts 1) refl refl refl refl b second)
    (below-four (CombineTexts 2) refl refl refl refl b second) (below-four (CombineTexts 3) refl refl refl refl b second) a first

pub rules-one : (a b : ℕ) → a < 4 → b < 4 → CombineIntegers a b
rules-one a b first second =
    below-four (λ k. CombineIntegers k b)
    (below-four (CombineIntegers 0) refl refl refl refl b second) (below-four (CombineIntegers 1) refl refl refl refl b second)
    (below-four (CombineIntegers 2) refl refl refl refl b second) (below-four (CombineIntegers 3) refl refl refl refl b second) a first

-- this is the length of counts
abbrev pub IsLength : ℕ → List ℕ → Type 0
IsLength n counts = broadcast counts ≡ Some n

-- one count for all that are not 1: it is the length if that holds of 1 and of each other
lengths-by : (n : ℕ) (counts : ℕ → List ℕ) → IsLength 1 (counts 1) → ((n == 1) ≡ false → (n == n) ≡ true → IsLength n (counts n)) → IsLength n (counts n)
lengths-by n counts one other = elim (cases_Bool (n == 1)) [
  | inl t ↦ let same : 1 ≡ n = sym (eqb-true n 1 t) in subst (λ m. IsLength m (counts m)) same one
  | inr f ↦ other f (eq-eqb n n refl)
]

-- the counts of the calls of a sample: those of operands, and then that of the output
pub length-set : (n : ℕ) → IsLength n (1 ∷ n ∷ [])
length-set n = lengths-by n (λ m. 1 ∷ m ∷ []) refl (λ f e. rw f refl)

pub length-two : (n : ℕ) → IsLength n (n ∷ n ∷ [])
length-two n = lengths-by n (λ m. m ∷ m ∷ []) refl (λ f e. simp (f, e))

pub length-three : (n : ℕ) → IsLength n (n ∷ 1 ∷ n ∷ [])
length-three n = lengths-by n (λ m. m ∷ 1 ∷ m ∷ []) refl (λ f e. simp (f, e))

pub length-five : (n : ℕ) → IsLength n (n ∷ 1 ∷ 1 ∷ 1 ∷ n ∷ [])
length-five n = lengths-by n (λ m. m ∷ 1 ∷ 1 ∷ 1 ∷ m ∷ []) refl (λ f e. simp (f, e))

-- an output of that length fits
pub fits-length : (out : View) (counts : List ℕ) → IsLength out.count counts → is_length_of (Some out) (broadcast counts) ≡ true
fits-length out counts e = ap (is_length_of (Some out)) e ∙ eq-eqb out.count out.count refl
