-- Calls by what they are on: the items of operands, or a descriptor as a whole. A call of the table has its line here, and no other lemma has cases by call.
use Rattle.std.proofs.Common.{◌≡◌, ◌≤◌, ◌⊎◌, inl, inr, ℕ, suc, true, false, ◌&&◌, Bool, cond, List, [], ◌∷◌, ◌++◌, length, map, take, Option, Some, None, refl, sym, ap, ◌∙◌, arith}
use Rattle.std.specs.Option.{is_some, option_map}
use Rattle.std.specs.List.{filter}
use Rattle.std.proofs.lemmas.Bool.{and_parts, and_right, cases_Bool, false≢true, or_cases}
use Rattle.std.proofs.lemmas.List.{append-nil, length-append}
use Rattle.sa_view.specs.declared.view.View.{View}
use Rattle.sa_call.specs.declared.call.Op.{Op}
use Rattle.sa_call.specs.declared.call.Op.TheVariants as op
use Rattle.sa_call.specs.declared.call.Operand.{Operand}
use Rattle.sa_call.specs.declared.call.Operand.TheVariants as operand
use Rattle.sa_call.specs.declared.form.Gives.TheVariants as gives
use Rattle.sa_call.specs.declared.form.Into.TheVariants as into
use Rattle.sa_call.specs.declared.form.Sort.{Sort}
use Rattle.sa_call.specs.declared.form.Sort.TheVariants as sort
use Rattle.sa_call.specs.Forms.{IsMoving, entry, descr_of, is_moved, is_operand, on_descr, with_fill}
use Rattle.sa_call.specs.Valid.{all_are, are_of, fit_table, is_empty, is_of, output_stands}
use Rattle.sa_call.proofs.KindLemmas.{is_computed}

-- numbers that may be left out all have numbers that stand for them, and other operands have none
abbrev pub HasDefaults : Op → Type 0
HasDefaults o = ((entry o).defaults ≡ []) ⊎ ((entry o).may ≡ map (λ n. sort.Numbers) (entry o).defaults)

-- the call computes its results, and treats missing values
pub record IsComputing (o : Op) : Type 0 where
  pub group : is_some (entry o).group ≡ true
  pub results : is_computed (entry o).results ≡ true

-- the call is on the items of its operands
pub record IsOnItems (o : Op) : Type 0 where
  pub gives : (entry o).gives ≡ gives.Items
  pub descr : descr_of o ≡ None
  pub few : length ((entry o).needs ++ (entry o).may) ≤ 4
  pub defaults : HasDefaults o
  pub kind : IsMoving o ⊎ IsComputing o

-- the call is on a descriptor as a whole
pub record IsWhole (o : Op) : Type 0 where
  pub number : ℕ
  pub descr : descr_of o ≡ Some number
  pub needs : (entry o).needs ≡ sort.Descr ∷ []
  pub may : (entry o).may ≡ []
  pub defaults : (entry o).defaults ≡ []
  pub into : (entry o).into ≡ into.Never
  pub group : (entry o).group ≡ None
  pub gives : ((entry o).gives ≡ gives.Statistics) ⊎ ((entry o).gives ≡ gives.Picture)

computing : (o : Op) → (entry o).gives ≡ gives.Items → descr_of o ≡ None → length ((entry o).needs ++ (entry o).may) ≤ 4 → is_some (entry o).group ≡ true → is_computed (entry o).results ≡ true → HasDefaults o → IsOnItems o ⊎ IsWhole o
computing o given none few computes results defaults = inl (record { gives = given; descr = none; few = few; defaults = defaults; kind = inr (record { group = computes; results = results }) })

pub op-cases : (o : Op) → IsOnItems o ⊎ IsWhole o
op-cases op.Set = inl (record { gives = refl; descr = refl; few = omega arith; defaults = inl refl; kind = inl (record { need = sort.Literal; needs = refl; moves = refl; may = refl; results = refl; group = refl; element = refl }) })
op-cases op.Copy = inl (record { gives = refl; descr = refl; few = omega arith; defaults = inl refl; kind = inl (record { need = sort.View; needs = refl; moves = refl; may = refl; results = refl; group = refl; element = refl }) })
op-cases op.Show = inl (record { gives = refl; descr = refl; few = omega arith; defaults = inl refl; kind = inl (record { need = sort.View; needs = refl; moves = refl; may = refl; results = refl; group = refl; element = refl }) })
op-cases op.Add = computing op.Add refl refl (omega arith) refl refl (inl refl)
op-cases op.Multiply = computing op.Multiply refl refl (omega arith) refl refl (inl refl)
op-cases (op.Center fill) = computing (op.Center fill) refl refl (omega arith) refl refl (inl refl)
op-cases (op.Ljust fill) = computing (op.Ljust fill) refl refl (omega arith) refl refl (inl refl)
op-cases (op.Rjust fill) = computing (op.Rjust fill) refl refl (omega arith) refl refl (inl refl)
op-cases op.Zfill = computing op.Zfill refl refl (omega arith) refl refl (inl refl)
op-cases op.Strip = computing op.Strip refl refl (omega arith) refl refl (inl refl)
op-cases op.Lstrip = computing op.Lstrip refl refl (omega arith) refl refl (inl refl)
op-cases op.Rstrip = computing op.Rstrip refl refl (omega arith) refl refl (inl refl)
op-cases op.Replace = computing op.Replace refl refl (omega arith) refl refl (inr refl)
op-cases op.Find = computing op.Find refl refl (omega arith) refl refl (inr refl)
op-cases op.Rfind = computing op.Rfind refl refl (omega arith) refl refl (inr refl)
op-cases op.Index = computing op.Index refl refl (omega arith) refl refl (inr refl)
op-cases op.Rindex = computing op.Rindex refl refl (omega arith) refl refl (inr refl)
op-cases op.Count = computing op.Count refl refl (omega arith) refl refl (inr refl)
op-cases op.Starts = computing op.Starts refl refl (omega arith) refl refl (inr refl)
op-cases op.Ends = computing op.Ends refl refl (omega arith) refl refl (inr refl)
op-cases op.Equal = computing op.Equal refl refl (omega arith) refl refl (inl refl)
op-cases op.NotEqual = computing op.NotEqual refl refl (omega arith) refl refl (inl refl)
op-cases op.Less = computing op.Less refl refl (omega arith) refl refl (inl refl)
op-cases op.LessEqual = computing op.LessEqual refl refl (omega arith) refl refl (inl refl)
op-cases op.Greater = computing op.Greater refl refl (omega arith) refl refl (inl refl)
op-cases op.GreaterEqual = computing op.GreaterEqual refl refl (omega arith) refl refl (inl refl)
op-cases op.IsAlpha = computing op.IsAlpha refl refl (omega arith) refl refl (inl refl)
op-cases op.IsDecimal = computing op.IsDecimal refl refl (omega arith) refl refl (inl refl)
op-cases op.IsAlnum = computing op.IsAlnum refl refl (omega arith) refl refl (inl refl)
op-cases op.IsSpace = computing op.IsSpace refl refl (omega arith) refl refl (inl refl)
op-cases (op.Stats d) = inr (record { number = d; descr = refl; needs = refl; may = refl; defaults = refl; into = refl; group = refl; gives = inl refl })
op-cases (op.Image d) = inr (record { number = d; descr = refl; needs = refl; may = refl; defaults = refl; into = refl; group = refl; gives = inr refl })

whole-apart : (o : Op) → IsWhole o → (entry o).gives ≡ gives.Items → ⊥
whole-apart o is same = elim is.gives [ inl e ↦ let x = sym e ∙ same in cc | inr e ↦ let x = sym e ∙ same in cc ]

items-apart : (o : Op) (n : ℕ) → IsOnItems o → descr_of o ≡ Some n → ⊥
items-apart o n is at = let x = sym is.descr ∙ at in cc

-- by what the call gives, and by its descriptor
pub on-items : (o : Op) → (entry o).gives ≡ gives.Items → IsOnItems o
on-items o same = elim (op-cases o) [ inl is ↦ is | inr is ↦ absurd (whole-apart o is same) ]

pub on-none : (o : Op) → descr_of o ≡ None → IsOnItems o
on-none o none = elim (op-cases o) [ inl is ↦ is | inr is ↦ let x : None ≡ Some is.number = sym none ∙ is.descr in cc ]

pub on-whole : (o : Op) (n : ℕ) → descr_of o ≡ Some n → IsWhole o
on-whole o n at = elim (op-cases o) [ inl is ↦ absurd (items-apart o n is at) | inr is ↦ is ]

-- by its group of missing values
pub on-group : (o : Op) → is_some (entry o).group ≡ true → IsOnItems o
on-group o given = elim (op-cases o) [ inl is ↦ is | inr is ↦ absurd (false≢true (sym (ap is_some is.group) ∙ given)) ]

pub moves : (o : Op) → IsOnItems o → (entry o).group ≡ None → IsMoving o
moves o is none = elim is.kind [ inl moving ↦ moving | inr computes ↦ absurd (false≢true (sym (ap is_some none) ∙ computes.group)) ]

-- a call of a group of missing values moves nothing
pub computes : (o : Op) → is_some (entry o).group ≡ true → IsComputing o
computes o given = elim (on-group o given).kind [ inl moving ↦ absurd (false≢true (sym (ap is_some moving.group) ∙ given)) | inr computing ↦ computing ]

pub on-statistics : (o : Op) → (entry o).gives ≡ gives.Statistics → IsWhole o
on-statistics o given = elim (op-cases o) [ inl is ↦ let x = sym is.gives ∙ given in cc | inr is ↦ is ]

pub on-picture : (o : Op) → (entry o).gives ≡ gives.Picture → IsWhole o
on-picture o given = elim (op-cases o) [ inl is ↦ let x = sym is.gives ∙ given in cc | inr is ↦ is ]

pub whole-number : (o : Op) (n : ℕ) → (is : IsWhole o) → descr_of o ≡ Some n → is.number ≡ n
whole-number o n is at = let x = sym is.descr ∙ at in cc

-- such a call has no operands and no output
no-operands : (os : List Operand) → are_of (sort.Descr ∷ []) os ≡ true → os ≡ []
no-operands [] are = refl
no-operands (o ∷ os) are = absurd (false≢true are)

-- where nothing may be left out the operands are those that the call needs
fits-alone : (o : Op) (os : List Operand) → (entry o).may ≡ [] → fit_table o os ≡ true → are_of (entry o).needs os ≡ true
fits-alone o os none sorts =
    let e = entry o in
    elim (or_cases (is_empty e.defaults && are_of e.needs os) (are_of (e.needs ++ e.may) os) sorts) [
      | inl short ↦ (and_parts (is_empty e.defaults) (are_of e.needs os) short).1
      | inr long ↦ ap (λ ss. are_of ss os) (sym (ap (λ ms. e.needs ++ ms) none ∙ append-nil e.needs)) ∙ long
    ]

no-output : (out : Option View) → output_stands into.Never out ≡ true → out ≡ None
no-output None stands = refl
no-output (Some v) stands = absurd (false≢true stands)

pub whole-alone : (o : Op) (os : List Operand) (out : Option View) → IsWhole o → fit_table o os ≡ true → output_stands (entry o).into out ≡ true → (os ≡ []) × (out ≡ None)
whole-alone o os out is sorts output =
    let never : output_stands into.Never out ≡ true = sym (ap (λ i. output_stands i out) is.into) ∙ output in
    (no-operands os (ap (λ ss. are_of ss os) (sym is.needs) ∙ fits-alone o os is.may sorts), no-output out never)

-- a call that moves has one operand
one-of : (s : Sort) (os : List Operand) → is_operand s ≡ true → are_of (s ∷ []) os ≡ true → length os ≡ 1
one-of s os here are = go os (sym (ap (λ b. all_are is_of (cond b (s ∷ []) []) os) here) ∙ are)
  where
    go : (os : List Operand) → all_are is_of (s ∷ []) os ≡ true → length os ≡ 1
    go [] h = absurd (false≢true h)
    go (o ∷ []) h = refl
    go (o ∷ p ∷ os) h = absurd (false≢true (sym (and_right (is_of s o) false refl) ∙ h))

moved-operand : (s : Sort) → is_moved s ≡ true → is_operand s ≡ true
moved-operand sort.View h = refl
moved-operand sort.Literal h = refl
moved-operand sort.Texts h = refl
moved-operand sort.Numbers h = refl
moved-operand sort.Fill h = absurd (false≢true h)
moved-operand sort.Descr h = absurd (false≢true h)

fits-one : (o : Op) (os : List Operand) → (is : IsMoving o) → fit_table o os ≡ true → are_of (is.need ∷ []) os ≡ true
fits-one o os is sorts = ap (λ ss. are_of ss os) (sym is.needs) ∙ fits-alone o os is.may sorts

pub one-operand : (o : Op) (os : List Operand) → IsMoving o → fit_table o os ≡ true → length os ≡ 1
one-operand o os is sorts = one-of is.need os (moved-operand is.need is.moves) (fits-one o os is sorts)

-- no call has more operands than the table names sorts
few-of : (test : Sort → Operand → Bool) (ss : List Sort) (os : List Operand) → all_are test ss os ≡ true → length os ≡ length ss
few-of test [] [] are = refl
few-of test [] (o ∷ os) are = absurd (false≢true are)
few-of test (s ∷ ss) [] are = absurd (false≢true are)
few-of test (s ∷ ss) (o ∷ os) are = ap suc (few-of test ss os (and_parts (test s o) (all_are test ss os) are).1)

filter-few : (ss : List Sort) → length (filter is_operand ss) ≤ length ss
filter-few [] = omega arith
filter-few (s ∷ ss) =
    let rest = filter-few ss in
    elim (cases_Bool (is_operand s)) [ inl t ↦ rw t (omega arith) | inr f ↦ rw f (omega arith) ]

pub few-operands : (o : Op) (os : List Operand) → IsOnItems o → fit_table o os ≡ true → length os ≤ 4
few-operands o os is sorts =
    let e = entry o in
    let most = is.few in
    let both = length-append e.needs e.may in
    elim (or_cases (is_empty e.defaults && are_of e.needs os) (are_of (e.needs ++ e.may) os) sorts) [
      | inl short ↦ let same = few-of is_of (filter is_operand e.needs) os (and_parts (is_empty e.defaults) (are_of e.needs os) short).1 in let few = filter-few e.needs in omega arith
      | inr long ↦ let same = few-of is_of (filter is_operand (e.needs ++ e.may)) os long in let few = filter-few (e.needs ++ e.may) in omega arith
    ]

-- what a line asks for stays, whatever descriptor or fill stands in the call
pub record IsSameLine (o p : Op) : Type 0 where
  pub needs : (entry p).needs ≡ (entry o).needs
  pub may : (entry p).may ≡ (entry o).may
  pub defaults : (entry p).defaults ≡ (entry o).defaults
  pub results : (entry p).results ≡ (entry o).results
  pub into : (entry p).into ≡ (entry o).into

same-line : (o : Op) → IsSameLine o o
same-line o = record { needs = refl; may = refl; defaults = refl; results = refl; into = refl }

pub on_descr-line : (o : Op) (n : ℕ) → IsSameLine o (on_descr o n) × (descr_of (on_descr o n) ≡ option_map (λ d. n) (descr_of o))
on_descr-line op.Set n = (same-line op.Set, refl)
on_descr-line op.Copy n = (same-line op.Copy, refl)
on_descr-line op.Show n = (same-line op.Show, refl)
on_descr-line op.Add n = (same-line op.Add, refl)
on_descr-line op.Multiply n = (same-line op.Multiply, refl)
on_descr-line (op.Center f) n = (same-line (op.Center f), refl)
on_descr-line (op.Ljust f) n = (same-line (op.Ljust f), refl)
on_descr-line (op.Rjust f) n = (same-line (op.Rjust f), refl)
on_descr-line op.Zfill n = (same-line op.Zfill, refl)
on_descr-line op.Strip n = (same-line op.Strip, refl)
on_descr-line op.Lstrip n = (same-line op.Lstrip, refl)
on_descr-line op.Rstrip n = (same-line op.Rstrip, refl)
on_descr-line op.Replace n = (same-line op.Replace, refl)
on_descr-line op.Find n = (same-line op.Find, refl)
on_descr-line op.Rfind n = (same-line op.Rfind, refl)
on_descr-line op.Index n = (same-line op.Index, refl)
on_descr-line op.Rindex n = (same-line op.Rindex, refl)
on_descr-line op.Count n = (same-line op.Count, refl)
on_descr-line op.Starts n = (same-line op.Starts, refl)
on_descr-line op.Ends n = (same-line op.Ends, refl)
on_descr-line op.Equal n = (same-line op.Equal, refl)
on_descr-line op.NotEqual n = (same-line op.NotEqual, refl)
on_descr-line op.Less n = (same-line op.Less, refl)
on_descr-line op.LessEqual n = (same-line op.LessEqual, refl)
on_descr-line op.Greater n = (same-line op.Greater, refl)
on_descr-line op.GreaterEqual n = (same-line op.GreaterEqual, refl)
on_descr-line op.IsAlpha n = (same-line op.IsAlpha, refl)
on_descr-line op.IsDecimal n = (same-line op.IsDecimal, refl)
on_descr-line op.IsAlnum n = (same-line op.IsAlnum, refl)
on_descr-line op.IsSpace n = (same-line op.IsSpace, refl)
on_descr-line (op.Stats d) n = (record { needs = refl; may = refl; defaults = refl; results = refl; into = refl }, refl)
on_descr-line (op.Image d) n = (record { needs = refl; may = refl; defaults = refl; results = refl; into = refl }, refl)

pub with_fill-line : (o : Op) (fill : ℕ) → IsSameLine o (with_fill o fill) × (descr_of (with_fill o fill) ≡ descr_of o)
with_fill-line op.Set fill = (same-line op.Set, refl)
with_fill-line op.Copy fill = (same-line op.Copy, refl)
with_fill-line op.Show fill = (same-line op.Show, refl)
with_fill-line op.Add fill = (same-line op.Add, refl)
with_fill-line op.Multiply fill = (same-line op.Multiply, refl)
with_fill-line (op.Center f) fill = (record { needs = refl; may = refl; defaults = refl; results = refl; into = refl }, refl)
with_fill-line (op.Ljust f) fill = (record { needs = refl; may = refl; defaults = refl; results = refl; into = refl }, refl)
with_fill-line (op.Rjust f) fill = (record { needs = refl; may = refl; defaults = refl; results = refl; into = refl }, refl)
with_fill-line op.Zfill fill = (same-line op.Zfill, refl)
with_fill-line op.Strip fill = (same-line op.Strip, refl)
with_fill-line op.Lstrip fill = (same-line op.Lstrip, refl)
with_fill-line op.Rstrip fill = (same-line op.Rstrip, refl)
with_fill-line op.Replace fill = (same-line op.Replace, refl)
with_fill-line op.Find fill = (same-line op.Find, refl)
with_fill-line op.Rfind fill = (same-line op.Rfind, refl)
with_fill-line op.Index fill = (same-line op.Index, refl)
with_fill-line op.Rindex fill = (same-line op.Rindex, refl)
with_fill-line op.Count fill = (same-line op.Count, refl)
with_fill-line op.Starts fill = (same-line op.Starts, refl)
with_fill-line op.Ends fill = (same-line op.Ends, refl)
with_fill-line op.Equal fill = (same-line op.Equal, refl)
with_fill-line op.NotEqual fill = (same-line op.NotEqual, refl)
with_fill-line op.Less fill = (same-line op.Less, refl)
with_fill-line op.LessEqual fill = (same-line op.LessEqual, refl)
with_fill-line op.Greater fill = (same-line op.Greater, refl)
with_fill-line op.GreaterEqual fill = (same-line op.GreaterEqual, refl)
with_fill-line op.IsAlpha fill = (same-line op.IsAlpha, refl)
with_fill-line op.IsDecimal fill = (same-line op.IsDecimal, refl)
with_fill-line op.IsAlnum fill = (same-line op.IsAlnum, refl)
with_fill-line op.IsSpace fill = (same-line op.IsSpace, refl)
with_fill-line (op.Stats d) fill = (same-line (op.Stats d), refl)
with_fill-line (op.Image d) fill = (same-line (op.Image d), refl)

pub has-defaults : (o : Op) → HasDefaults o
has-defaults o = elim (op-cases o) [ inl is ↦ is.defaults | inr is ↦ inl is.defaults ]
