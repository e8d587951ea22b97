-- What the views of a sample's calls mean under its declarations.
use Rattle.std.proofs.Common.{◌≡◌, ℕ, zero, suc, ◌+◌, ◌-◌, ◌*◌, ◌<◌, nat_lt, nat_le, true, false, ◌&&◌, not, List, ◌∷◌, Option, Some, unwrap_or, is_none, pos, refl, ap, ◌∙◌, arith, decimal}
use Rattle.std.specs.Fmt.{digits}
use Rattle.std.proofs.lemmas.Bool.{and_from, le-leb, lt-ltb}
use Rattle.sa_view.specs.Views.{at_step, fits, is_within}
use Rattle.sa_view.specs.declared.view.View.{View}
use Rattle.sa_view.proofs.ViewLemmas.{fits-by_ends}
use Rattle.sa_plain.specs.declared.kind.PlainKind.TheVariants as plain
use Rattle.sa_call.specs.Decls.{kind_of, length_at}
use Rattle.sa_call.specs.declared.call.Call.{Call}
use Rattle.sa_call.specs.declared.decls.Kind.TheVariants as kind
use Rattle.sa_script.specs.Contexts.{number_in}
use Rattle.sa_script.specs.Terms.{span_fits, view_in, view_misnamed, view_unfit}
use Rattle.sa_script.specs.declared.statement.ViewTerm.{ViewTerm}
use Rattle.sa_sample.specs.declared.drawing.DrawnView.{DrawnView}
use Rattle.sa_sample.proofs.DeclarationLemmas.{arrays, declared, known, ready}
use Rattle.sa_sample.proofs.ViewLemmas.{IsDrawnView, strided, view_term}

-- what holds of 0 to 3
pub below-four : (P : ℕ → Type 0) → P 0 → P 1 → P 2 → P 3 → (k : ℕ) → k < 4 → P k
below-four P a b c d zero below = a
below-four P a b c d (suc zero) below = b
below-four P a b c d (suc (suc zero)) below = c
below-four P a b c d (suc (suc (suc zero))) below = d
below-four P a b c d (suc (suc (suc (suc k)))) below = absurd (omega arith)

-- places from a start on
abbrev pub from : ℕ → ℕ → ℕ → View
from array start count = record { array = array; start = start; count = count; step = pos 1 }

-- a view of a line means one of its array
pub record IsMeant (tasks : List (List Call)) (calls : ℕ) (v : ViewTerm) (w : View) : Type 0 where
  pub named : view_misnamed (ready tasks calls) v ≡ false
  pub fit : view_unfit (ready tasks calls) v ≡ false
  pub meant : view_in (ready tasks calls) v ≡ w

-- the last place of a view is one of its array
within-end : (start count : ℕ) → start < 32 → 0 < count → count < 33 → nat_lt (start + (count - 1) * 1) 64 ≡ true
within-end start count first some few = lt-ltb (start + (count - 1) * 1) 64 (omega arith)

-- start and count fit the arrays
span-fits : (array start count : ℕ) → start < 32 → 0 < count → count < 33 → span_fits array 64 (strided start count) ≡ true
span-fits array start count first some few =
    let v : View = from array start count in
    let ends = and_from (nat_lt start 64) (is_within 64 (at_step v (count - 1))) (lt-ltb start 64 (omega arith)) (within-end start count first some few) in
    let numbers = and_from (nat_le start 4294967295) (nat_le count 4294967295) (le-leb start 4294967295 (omega arith)) (le-leb count 4294967295 (omega arith)) in
    and_from ((nat_le start 4294967295 && nat_le count 4294967295) && true) (fits 64 v) (and_from (nat_le start 4294967295 && nat_le count 4294967295) true numbers refl) (fits-by_ends 64 v refl some ∙ ends)

-- a view of an array of this number
is-meant : (tasks : List (List Call)) (calls : ℕ) (name : List ℕ) (array start count : ℕ) → number_in known.arrays name ≡ Some array → length_at arrays array ≡ 64 → start < 32 → 0 < count → count < 33
    → IsMeant tasks calls (record { name = name; span = strided start count }) (from array start count)
is-meant tasks calls name array start count numbered len first some few = record {
  named = ap is_none numbered;
  fit =
      ap (λ (o : Option ℕ). not (span_fits (unwrap_or o 0) (length_at arrays (unwrap_or o 0)) (strided start count))) numbered
      ∙ (ap (λ (n : ℕ). not (span_fits array n (strided start count))) len ∙ ap not (span-fits array start count first some few));
  meant = ap (λ (o : Option ℕ). from (unwrap_or o 0) start count) numbered;
}

-- the numbers, the lengths and the kinds of the arrays
texts-numbered : (k : ℕ) → k < 4 → number_in known.arrays (97 ∷ decimal k) ≡ Some (2 * k)
unfolding digits
texts-numbered = below-four (λ k. number_in known.arrays (97 ∷ decimal k) ≡ Some (2 * k)) refl refl refl refl

integers-numbered : (k : ℕ) → k < 4 → number_in known.arrays (110 ∷ decimal k) ≡ Some (2 * k + 1)
unfolding digits
integers-numbered = below-four (λ k. number_in known.arrays (110 ∷ decimal k) ≡ Some (2 * k + 1)) refl refl refl refl

texts-length : (k : ℕ) → k < 4 → length_at arrays (2 * k) ≡ 64
texts-length = below-four (λ k. length_at arrays (2 * k) ≡ 64) refl refl refl refl

integers-length : (k : ℕ) → k < 4 → length_at arrays (2 * k + 1) ≡ 64
integers-length = below-four (λ k. length_at arrays (2 * k + 1) ≡ 64) refl refl refl refl

pub texts-kind : (k : ℕ) → k < 4 → kind_of declared (2 * k) ≡ kind.Str
texts-kind = below-four (λ k. kind_of declared (2 * k) ≡ kind.Str) refl refl refl refl

pub integers-kind : (k : ℕ) → k < 4 → kind_of declared (2 * k + 1) ≡ kind.Plain plain.Int
integers-kind = below-four (λ k. kind_of declared (2 * k + 1) ≡ kind.Plain plain.Int) refl refl refl refl

-- the views of drawn places
abbrev pub texts : DrawnView → ℕ → View
texts v count = from (2 * v.array) v.start count

abbrev pub integers : DrawnView → ℕ → View
integers v count = from (2 * v.array + 1) v.start count

-- the views of a line mean them
pub texts-meant : (tasks : List (List Call)) (calls : ℕ) (v : DrawnView) (count : ℕ) → IsDrawnView v count → IsMeant tasks calls (view_term 97 v count) (texts v count)
texts-meant tasks calls v count d = is-meant tasks calls (97 ∷ decimal v.array) (2 * v.array) v.start count (texts-numbered v.array d.array) (texts-length v.array d.array) d.start d.some d.few

pub integers-meant : (tasks : List (List Call)) (calls : ℕ) (v : DrawnView) (count : ℕ) → IsDrawnView v count → IsMeant tasks calls (view_term 110 v count) (integers v count)
integers-meant tasks calls v count d = is-meant tasks calls (110 ∷ decimal v.array) (2 * v.array + 1) v.start count (integers-numbered v.array d.array) (integers-length v.array d.array) d.start d.some d.few
