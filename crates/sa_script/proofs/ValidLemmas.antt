-- The call of a line without a fault is valid.
use Rattle.std.proofs.Common.{◌≡◌, inl, inr, ℕ, zero, suc, ◌+◌, ◌-◌, ◌*◌, ◌<◌, nat_lt, Bool, true, false, not, ◌&&◌, ◌||◌, ℤ, pos, negsuc, List, [], ◌∷◌, ◌++◌, length, Option, Some, None, option_map, is_none, unwrap_or, refl, sym, ap, subst, ◌∙◌, arith}
use Rattle.std.specs.List.{AllByRecursion, list_any, list_all}
use Rattle.std.proofs.lemmas.Bool.{or_parts, and_parts, and_from, lt-ltb, not-false, true≢false}
use Rattle.std.proofs.lemmas.List.Quantifiers.{position-Some}
use Rattle.sa_view.specs.Views.{fits, is_zero}
use Rattle.sa_view.specs.Slices.{slice_of, slice_view}
use Rattle.sa_view.proofs.SliceLemmas.{slice-fits}
use Rattle.sa_view.proofs.ViewLemmas.{fits-none, fits-by_ends}
use Rattle.sa_call.specs.declared.call.Op.{Op}
use Rattle.sa_call.specs.declared.form.Sort.{Sort}
use Rattle.sa_call.specs.declared.form.Sort.TheVariants as sort
use Rattle.sa_call.specs.declared.form.Into.{Into}
use Rattle.sa_call.specs.declared.form.Into.TheVariants as into
use Rattle.sa_call.specs.Calls.{lengths_fit}
use Rattle.sa_call.specs.Decls.{length_at}
use Rattle.sa_call.specs.Forms.{entry, on_descr, descr_of}
use Rattle.sa_call.proofs.OpLemmas.{IsSameLine, op-cases, on_descr-line, with_fill-line}
use Rattle.sa_call.specs.Valid.{IsCall, IsLiteralOperand, are_of, call_kinds_fit, fit_table, is_empty, kinds_fit, results_fit, rules_fit, output_stands, is_view_of, is_operand_of, is_output_of, is_descr_of}
use Rattle.sa_script.specs.declared.context.Context.{Context}
use Rattle.sa_script.specs.declared.statement.Span.{Span}
use Rattle.sa_script.specs.declared.statement.Span.TheVariants as span
use Rattle.sa_script.specs.declared.statement.ViewTerm.{ViewTerm}
use Rattle.sa_script.specs.declared.statement.Term.{Term}
use Rattle.sa_script.specs.declared.statement.Term.TheVariants as term
use Rattle.sa_script.specs.declared.statement.Line.{Line}
use Rattle.sa_script.specs.Contexts.{declared_in, number_in, used_array, used_length, descr_number, home_number}
use Rattle.sa_script.specs.Resolving.{IsMeant}
use Rattle.sa_script.specs.SoundContexts.{IsSoundContext}
use Rattle.sa_script.specs.Spelled.{AreTermsOf, AreTerms, output_given, IsLine}
use Rattle.sa_script.specs.Terms.{whole, given, given_or, is_u32, is_i32, is_step, view_at, span_fits, view_in, of_output, span_passes, view_misnamed, view_unfit, term_misnamed, term_passes, term_unfit, given_items, fill_of, filled, line_misnamed, line_passes, line_unfit, operands_in, op_in, call_in}
use Rattle.sa_script.proofs.ResolvingLemmas.{literals_in}

-- a number that is among a list's places
pub found_below : (names : List (List ℕ)) (name : List ℕ) → is_none (number_in names name) ≡ false → unwrap_or (number_in names name) 0 < length names
found_below names name e = go (number_in names name) refl e
  where
    go : (o : Option ℕ) → number_in names name ≡ o → is_none o ≡ false → unwrap_or o 0 < length names
    go None same e = cc
    go (Some i) same e = (position-Some _ names i [] same).0

-- what a line asks for stays, whatever descriptor or fill is named
same-trans : (o p q : Op) → IsSameLine o p → IsSameLine p q → IsSameLine o q
same-trans o p q first then = record {
  needs = then.needs ∙ first.needs;
  may = then.may ∙ first.may;
  defaults = then.defaults ∙ first.defaults;
  results = then.results ∙ first.results;
  into = then.into ∙ first.into;
}

filled-line : (o : Op) (fill : Option ℕ) → IsSameLine o (filled o fill)
filled-line o None = record { needs = refl; may = refl; defaults = refl; results = refl; into = refl }
filled-line o (Some fill) = (with_fill-line o fill).0

line-in : (c : Context) (ts : List Term) (o : Op) → IsSameLine o (op_in c o ts)
line-in c [] o = record { needs = refl; may = refl; defaults = refl; results = refl; into = refl }
line-in c (term.View v ∷ ts) o = line-in c ts o
line-in c (term.List items ∷ ts) o = line-in c ts o
line-in c (term.Fill items ∷ ts) o =
    let p = filled o (fill_of (given_items items)) in same-trans o p (op_in c p ts) (filled-line o (fill_of (given_items items))) (line-in c ts p)
line-in c (term.Descr name ∷ ts) o =
    let p = on_descr o (home_number c name) in same-trans o p (op_in c p ts) (on_descr-line o (home_number c name)).0 (line-in c ts p)

-- operands are of the sorts of their terms
are_of-in : (c : Context) (ss : List Sort) (ts : List Term) → AreTerms ss ts → are_of ss (operands_in c ts) ≡ true
are_of-in c [] [] are = refl
are_of-in c [] (t ∷ ts) are = elim are [ ]
are_of-in c (s ∷ ss) [] are = elim are [ ]
are_of-in c (sort.View ∷ ss) (term.View v ∷ ts) are = are_of-in c ss ts are.1
are_of-in c (sort.View ∷ ss) (term.List items ∷ ts) are = absurd are.0
are_of-in c (sort.View ∷ ss) (term.Fill items ∷ ts) are = absurd are.0
are_of-in c (sort.View ∷ ss) (term.Descr name ∷ ts) are = absurd are.0
are_of-in c (sort.Literal ∷ ss) (term.View v ∷ ts) are = absurd are.0
are_of-in c (sort.Literal ∷ ss) (term.List items ∷ ts) are = are_of-in c ss ts are.1
are_of-in c (sort.Literal ∷ ss) (term.Fill items ∷ ts) are = absurd are.0
are_of-in c (sort.Literal ∷ ss) (term.Descr name ∷ ts) are = absurd are.0
are_of-in c (sort.Texts ∷ ss) (term.View v ∷ ts) are = are_of-in c ss ts are.1
are_of-in c (sort.Texts ∷ ss) (term.List items ∷ ts) are = are_of-in c ss ts are.1
are_of-in c (sort.Texts ∷ ss) (term.Fill items ∷ ts) are = absurd are.0
are_of-in c (sort.Texts ∷ ss) (term.Descr name ∷ ts) are = absurd are.0
are_of-in c (sort.Numbers ∷ ss) (term.View v ∷ ts) are = are_of-in c ss ts are.1
are_of-in c (sort.Numbers ∷ ss) (term.List items ∷ ts) are = are_of-in c ss ts are.1
are_of-in c (sort.Numbers ∷ ss) (term.Fill items ∷ ts) are = absurd are.0
are_of-in c (sort.Numbers ∷ ss) (term.Descr name ∷ ts) are = absurd are.0
are_of-in c (sort.Fill ∷ ss) (term.View v ∷ ts) are = absurd are.0
are_of-in c (sort.Fill ∷ ss) (term.List items ∷ ts) are = absurd are.0
are_of-in c (sort.Fill ∷ ss) (term.Fill items ∷ ts) are = are_of-in c ss ts are.1
are_of-in c (sort.Fill ∷ ss) (term.Descr name ∷ ts) are = absurd are.0
are_of-in c (sort.Descr ∷ ss) (term.View v ∷ ts) are = absurd are.0
are_of-in c (sort.Descr ∷ ss) (term.List items ∷ ts) are = absurd are.0
are_of-in c (sort.Descr ∷ ss) (term.Fill items ∷ ts) are = absurd are.0
are_of-in c (sort.Descr ∷ ss) (term.Descr name ∷ ts) are = are_of-in c ss ts are.1

table-in : (c : Context) (o : Op) (ts : List Term) → AreTermsOf o ts → fit_table (op_in c o ts) (operands_in c ts) ≡ true
table-in c o ts are =
    let same = line-in c ts o in
    let os = operands_in c ts in
    let p = entry (op_in c o ts) in
    ap (λ ns. (is_empty ns && are_of p.needs os) || are_of (p.needs ++ p.may) os) same.defaults
    ∙ ap (λ ss. (is_empty (entry o).defaults && are_of ss os) || are_of (ss ++ p.may) os) same.needs
    ∙ ap (λ ms. (is_empty (entry o).defaults && are_of (entry o).needs os) || are_of ((entry o).needs ++ ms) os) same.may
    ∙ elim are [
      | inl short ↦ let none = short.0 in let e = are_of-in c (entry o).needs ts short.1 in rw (none, e) refl
      | inr long ↦ let e = are_of-in c ((entry o).needs ++ (entry o).may) ts long in or-true (is_empty (entry o).defaults && are_of (entry o).needs os) (are_of ((entry o).needs ++ (entry o).may) os) e
    ]
  where
    or-true : (a b : Bool) → b ≡ true → (a || b) ≡ true
    or-true true b e = refl
    or-true false b e = e

stands-in : (c : Context) (place : Into) (o : Option ViewTerm) → output_given place o ≡ true → output_stands place (option_map (view_in c) o) ≡ true
stands-in c into.Never None e = refl
stands-in c into.Never (Some v) e = cc
stands-in c into.May None e = refl
stands-in c into.May (Some v) e = refl
stands-in c into.Must None e = cc
stands-in c into.Must (Some v) e = refl
stands-in c into.First None e = cc
stands-in c into.First (Some v) e = refl

-- views fit
whole-fits : (array len : ℕ) → fits len (whole array len) ≡ true
whole-fits array zero = fits-none 0 (whole array 0) refl refl
whole-fits array (suc n) = fits-by_ends (suc n) (whole array (suc n)) refl (omega arith) ∙ and_from _ _ (lt-ltb 0 (suc n) (omega arith)) (lt-ltb (0 + (suc n - 1) * 1) (suc n) (omega arith))

step-on : (step : ℤ) → not (is_zero step) ≡ true → step ≡ pos 0 → ⊥
step-on step e is = true≢false (sym e ∙ ap (λ z. not (is_zero z)) is)

span-fits : (array len : ℕ) (s : Span) → span_fits array len s ≡ true → fits len (view_at array len s) ≡ true
span-fits array len span.Whole e = whole-fits array len
span-fits array len (span.Strided start count step) e = (and_parts ((is_u32 start && is_u32 count) && is_step step) (fits len (view_at array len (span.Strided start count step))) e).1
span-fits array len (span.Slice from to step) e =
    slice-fits array len (given from) (given to) (given_or (pos 1) step) (step-on (given_or (pos 1) step) (and_parts (is_i32 (given_or (pos 1) step)) (not (is_zero (given_or (pos 1) step))) e).1)

array-is : (array start count : ℕ) (step : ℤ) → (slice_view array start count step).array ≡ array
array-is array start zero step = refl
array-is array start (suc n) step = refl

slice-array : (array n : ℕ) (a b : Option ℤ) (step : ℤ) → (slice_of array n a b step).array ≡ array
slice-array array n a b (pos c) = array-is array _ _ (pos c)
slice-array array n a b (negsuc c) = array-is array _ _ (negsuc c)

view-array : (array len : ℕ) (s : Span) → (view_at array len s).array ≡ array
view-array array len span.Whole = refl
view-array array len (span.Strided start count step) = refl
view-array array len (span.Slice from to step) = slice-array array len (given from) (given to) (given_or (pos 1) step)

view-valid : (c : Context) (v : ViewTerm) → IsSoundContext c → view_misnamed c v ≡ false → view_unfit c v ≡ false → is_view_of (declared_in c) (view_in c v) ≡ true
view-valid c v s known fit =
    let array = used_array c v.name in
    let len = used_length c v.name in
    let same = view-array array len v.span in
    let below : array < length c.arrays = subst (λ n. array < n) s.sound.array_names (found_below c.names.arrays v.name known) in
    and_from (nat_lt (view_in c v).array (length c.arrays)) (fits (length_at c.arrays (view_in c v).array) (view_in c v))
    (ap (λ n. nat_lt n (length c.arrays)) same ∙ lt-ltb array (length c.arrays) below)
    (ap (λ n. fits (length_at c.arrays n) (view_in c v)) same ∙ span-fits array len v.span (not-false (span_fits array len v.span) fit))

operands-valid : (c : Context) (ts : List Term) → IsSoundContext c → list_any (term_misnamed c) ts ≡ false → list_any (term_unfit c) ts ≡ false → list_all (is_operand_of (declared_in c)) (operands_in c ts) ≡ true
operands-valid c [] s known fit = refl
operands-valid c (term.View v ∷ ts) s known fit =
    let names = or_parts (view_misnamed c v) (list_any (term_misnamed c) ts) known in
    let views = or_parts (view_unfit c v) (list_any (term_unfit c) ts) fit in
    and_from (is_view_of (declared_in c) (view_in c v)) (list_all (is_operand_of (declared_in c)) (operands_in c ts)) (view-valid c v s names.0 views.0) (operands-valid c ts s names.1 views.1)
operands-valid c (term.List items ∷ ts) s known fit = operands-valid c ts s known fit
operands-valid c (term.Fill items ∷ ts) s known fit = operands-valid c ts s known fit
operands-valid c (term.Descr name ∷ ts) s known fit =
    let names = or_parts (is_none (descr_number c name)) (list_any (term_misnamed c) ts) known in operands-valid c ts s names.1 fit

output-valid : (c : Context) (o : Option ViewTerm) → IsSoundContext c → of_output (view_misnamed c) o ≡ false → of_output (view_unfit c) o ≡ false → is_output_of (declared_in c) (option_map (view_in c) o) ≡ true
output-valid c None s known fit = refl
output-valid c (Some v) s known fit = view-valid c v s known fit

-- the descriptor that a line names is declared
filled-descr : (o : Op) (fill : Option ℕ) → descr_of (filled o fill) ≡ descr_of o
filled-descr o None = refl
filled-descr o (Some fill) = (with_fill-line o fill).1

none-in : (c : Context) (o : Op) (ts : List Term) → descr_of o ≡ None → descr_of (op_in c o ts) ≡ None
none-in c o [] none = none
none-in c o (term.View v ∷ ts) none = none-in c o ts none
none-in c o (term.List items ∷ ts) none = none-in c o ts none
none-in c o (term.Fill items ∷ ts) none = none-in c (filled o (fill_of (given_items items))) ts (filled-descr o (fill_of (given_items items)) ∙ none)
none-in c o (term.Descr name ∷ ts) none =
    none-in c (on_descr o (home_number c name)) ts ((on_descr-line o (home_number c name)).1 ∙ ap (option_map (λ (d : ℕ). home_number c name)) none)

named : (c : Context) (o : Op) (n : ℕ) (ts : List Term) → IsSoundContext c → AreTerms (sort.Descr ∷ []) ts → list_any (term_misnamed c) ts ≡ false → descr_of o ≡ Some n → is_descr_of (declared_in c) (descr_of (op_in c o ts)) ≡ true
named c o n [] s are known at = elim are [ ]
named c o n (term.View v ∷ ts) s are known at = absurd are.0
named c o n (term.List items ∷ ts) s are known at = absurd are.0
named c o n (term.Fill items ∷ ts) s are known at = absurd are.0
named c o n (term.Descr name ∷ t ∷ ts) s are known at = absurd are.1
named c o n (term.Descr name ∷ []) s are known at =
    let number = home_number c name in
    let below = subst (λ m. number < m) s.sound.descr_names (found_below c.names.descrs name (or_parts (is_none (descr_number c name)) false known).0) in
    ap (is_descr_of (declared_in c)) ((on_descr-line o number).1 ∙ ap (option_map (λ (d : ℕ). number)) at) ∙ lt-ltb number (length c.descrs) below

descr-valid : (c : Context) (o : Op) (ts : List Term) → IsSoundContext c → AreTermsOf o ts → list_any (term_misnamed c) ts ≡ false
    → is_descr_of (declared_in c) (descr_of (op_in c o ts)) ≡ true
descr-valid c o ts s are known =
    elim (op-cases o) [
      | inl is ↦ ap (is_descr_of (declared_in c)) (none-in c o ts is.descr)
      | inr is ↦
          let long : (entry o).needs ++ (entry o).may ≡ sort.Descr ∷ [] = ap (λ ss. ss ++ (entry o).may) is.needs ∙ ap (λ ms. sort.Descr ∷ ms) is.may in
          let terms : AreTerms (sort.Descr ∷ []) ts = elim are [ inl a ↦ subst (λ ss. AreTerms ss ts) is.needs a.1 | inr a ↦ subst (λ ss. AreTerms ss ts) long a ] in
          named c o is.number ts s terms known is.descr
    ]

-- the lists of a line that pass no limit are literals
line-literals : (c : Context) (o : Op) (ts : List Term) → AreTermsOf o ts → list_any term_passes ts ≡ false → AllByRecursion IsLiteralOperand (operands_in c ts)
line-literals c o ts are few = elim are [ inl a ↦ literals_in c (entry o).needs ts a.1 few | inr a ↦ literals_in c ((entry o).needs ++ (entry o).may) ts a few ]

pub line-meant : (c : Context) (l : Line) → IsSoundContext c → IsLine l → line_misnamed c l ≡ false → line_passes l ≡ false → line_unfit c l ≡ false → IsMeant (declared_in c) (call_in c l)
line-meant c l s is known few fit =
    let names = or_parts (list_any (term_misnamed c) l.operands) (of_output (view_misnamed c) l.out) known in
    let limits = or_parts (list_any term_passes l.operands) (of_output (λ v. span_passes v.span) l.out) few in
    let views = or_parts (list_any (term_unfit c) l.operands) (of_output (view_unfit c) l.out) fit in
    record {
      sorts = table-in c l.op l.operands is.terms;
      views = operands-valid c l.operands s names.0 views.0;
      into = output-valid c l.out s names.1 views.1;
      literals = line-literals c l.op l.operands is.terms limits.0;
    }

pub line-valid : (c : Context) (l : Line) → IsSoundContext c → IsLine l → line_misnamed c l ≡ false → line_passes l ≡ false → line_unfit c l ≡ false
    → call_kinds_fit (declared_in c) (call_in c l) ≡ true → lengths_fit (call_in c l) ≡ true → rules_fit (declared_in c) (call_in c l) ≡ true → IsCall (declared_in c) (call_in c l)
line-valid c l s is known few fit kinds lengths rules =
    let names = or_parts (list_any (term_misnamed c) l.operands) (of_output (view_misnamed c) l.out) known in
    let meant = line-meant c l s is known few fit in
    let both = and_parts (kinds_fit (declared_in c) (call_in c l).op (call_in c l).operands) (results_fit (declared_in c) (entry (call_in c l).op).results (call_in c l).operands (call_in c l).out) kinds in
    record {
      sorts = meant.sorts;
      kinds = both.0;
      results = both.1;
      output = ap (λ place. output_stands place (option_map (view_in c) l.out)) (line-in c l.operands l.op).into ∙ stands-in c (entry l.op).into l.out is.output;
      views = meant.views;
      into = meant.into;
      descr = descr-valid c l.op l.operands s is.terms names.0;
      lengths = lengths;
      rules = rules;
      literals = meant.literals;
    }
