-- A call's line that is taken apart term by term, and its faults.
use Rattle.std.proofs.Common.{◌≡◌, ◌==◌, nat_le, Bool, true, false, cond, ◌||◌, ◌&&◌, not, List, [], ◌∷◌, ◌++◌, Option, Some, None, is_none, refl, sym, ap, ◌∙◌, append-nil}
use Rattle.std.specs.List.{AllByRecursion, list_any}
use Rattle.std.proofs.lemmas.Bool.{or_parts}
use Rattle.std.proofs.lemmas.List.Folds.{list_any-append}
use Rattle.sa_view.specs.declared.view.View.{View}
use Rattle.sa_call.specs.declared.call.Op.{Op}
use Rattle.sa_call.specs.declared.call.Operand.TheVariants as operand
use Rattle.sa_call.specs.declared.call.Call.{Call}
use Rattle.sa_call.specs.declared.form.Sort.{Sort}
use Rattle.sa_call.specs.declared.form.Sort.TheVariants as sort
use Rattle.sa_call.specs.Forms.{on_descr}
use Rattle.sa_call.specs.Valid.{IsLiteral, IsLiteralOperand, call_kinds_fit, rules_fit}
use Rattle.sa_plain.specs.declared.items.Items.{Items}
use Rattle.sa_script.specs.declared.context.Context.{Context}
use Rattle.sa_script.specs.declared.cause.Cause.{Cause}
use Rattle.sa_script.specs.declared.cause.Cause.TheVariants as cause
use Rattle.sa_script.specs.declared.resolving.Resolved.{Resolved}
use Rattle.sa_script.specs.declared.statement.Term.{Term}
use Rattle.sa_script.specs.declared.statement.Term.TheVariants as term
use Rattle.sa_script.specs.declared.statement.Line.{Line}
use Rattle.sa_script.specs.declared.statement.Statement.TheVariants as statement
use Rattle.sa_script.specs.Contexts.{declared_in, home_number}
use Rattle.sa_script.specs.Faults.{fault_of, has_tasks}
use Rattle.sa_script.specs.Limits.{most_calls}
use Rattle.sa_call.specs.Calls.{lengths_fit}
use Rattle.sa_script.specs.declared.statement.ViewTerm.{ViewTerm}
use Rattle.sa_script.specs.Resolving.{IsTaken, AreTaken, IsResolved, with_term, call_of_terms, call_fault}
use Rattle.sa_script.specs.Spelled.{AreTerms, IsList}
use Rattle.sa_script.specs.Terms.{term_misnamed, term_passes, term_unfit, term_miskinded, term_misfilled, given_items, fill_of, filled, line_slices, view_in, view_misnamed, view_unfit, span_passes, op_in, operands_in}

-- a test of one thing more
or-false : (b : Bool) → (b || false) ≡ b
or-false true = refl
or-false false = refl

any-more : {A : Type 0} (p : A → Bool) (xs : List A) (x : A) → list_any p (xs ++ x ∷ []) ≡ (list_any p xs || p x)
any-more p xs x = list_any-append p xs (x ∷ []) ∙ ap (λ b. list_any p xs || b) (or-false (p x))

-- operands one after another
op_in-more : (c : Context) (ts us : List Term) (op : Op) → op_in c op (ts ++ us) ≡ op_in c (op_in c op ts) us
op_in-more c [] us op = refl
op_in-more c (term.View v ∷ ts) us op = op_in-more c ts us op
op_in-more c (term.List items ∷ ts) us op = op_in-more c ts us op
op_in-more c (term.Fill items ∷ ts) us op = op_in-more c ts us (filled op (fill_of (given_items items)))
op_in-more c (term.Descr name ∷ ts) us op = op_in-more c ts us (on_descr op (home_number c name))

operands_in-more : (c : Context) (ts us : List Term) → operands_in c (ts ++ us) ≡ operands_in c ts ++ operands_in c us
operands_in-more c [] us = refl
operands_in-more c (term.View v ∷ ts) us = ap (λ os. operand.View (view_in c v) ∷ os) (operands_in-more c ts us)
operands_in-more c (term.List items ∷ ts) us = ap (λ os. operand.Literal (given_items items) ∷ os) (operands_in-more c ts us)
operands_in-more c (term.Fill items ∷ ts) us = operands_in-more c ts us
operands_in-more c (term.Descr name ∷ ts) us = operands_in-more c ts us

call-more : (c : Context) (op : Op) (ts : List Term) (t : Term) → with_term c (call_of_terms c op ts) t ≡ call_of_terms c op (ts ++ t ∷ [])
call-more c op ts (term.View v) = rw (op_in-more, operands_in-more) refl
call-more c op ts (term.List items) = rw (op_in-more, operands_in-more) refl
call-more c op ts (term.Fill items) = rw (op_in-more, operands_in-more, append-nil) refl
call-more c op ts (term.Descr name) = rw (op_in-more, operands_in-more, append-nil) refl

pub taken-more : (c : Context) (op : Op) (ts : List Term) (t : Term) (r s : Resolved) → AreTaken c op ts r → IsTaken c r t s → AreTaken c op (ts ++ t ∷ []) s
taken-more c op ts t r s before taken = record {
  misnamed = taken.misnamed ∙ ap (λ b. b || term_misnamed c t) before.misnamed ∙ sym (any-more (term_misnamed c) ts t);
  passes = taken.passes ∙ ap (λ b. b || term_passes t) before.passes ∙ sym (any-more term_passes ts t);
  unfit = taken.unfit ∙ ap (λ b. b || term_unfit c t) before.unfit ∙ sym (any-more (term_unfit c) ts t);
  miskinded = taken.miskinded ∙ ap (λ b. b || term_miskinded t) before.miskinded ∙ sym (any-more term_miskinded ts t);
  misfilled = taken.misfilled ∙ ap (λ b. b || term_misfilled t) before.misfilled ∙ sym (any-more term_misfilled ts t);
  call = λ fit.
      let parts = or_parts r.unfit (term_unfit c t) (sym taken.unfit ∙ fit) in
      taken.call parts.1 ∙ ap (λ k. with_term c k t) (before.call parts.0) ∙ call-more c op ts t;
}

-- the lists of operands that pass no limit are literals
list_is : (items : Option Items) → IsList items → term_passes (term.List items) ≡ false → IsLiteral (given_items items)
list_is None is e = cc
list_is (Some items) is e = is

pub literals_in : (c : Context) (ss : List Sort) (ts : List Term) → AreTerms ss ts → list_any term_passes ts ≡ false → AllByRecursion IsLiteralOperand (operands_in c ts)
literals_in c [] [] are few = tt
literals_in c [] (t ∷ ts) are few = elim are [ ]
literals_in c (s ∷ ss) [] are few = elim are [ ]
literals_in c (sort.View ∷ ss) (term.List items ∷ ts) are few = absurd are.0
literals_in c (sort.Fill ∷ ss) (term.List items ∷ ts) are few = absurd are.0
literals_in c (sort.Descr ∷ ss) (term.List items ∷ ts) are few = absurd are.0
literals_in c (s ∷ ss) (term.Fill items ∷ ts) are few = literals_in c ss ts are.1 (or_parts (term_passes (term.Fill items)) (list_any term_passes ts) few).1
literals_in c (s ∷ ss) (term.View v ∷ ts) are few = (tt, literals_in c ss ts are.1 (or_parts (term_passes (term.View v)) (list_any term_passes ts) few).1)
literals_in c (sort.Literal ∷ ss) (term.List items ∷ ts) are few = let parts = or_parts (term_passes (term.List items)) (list_any term_passes ts) few in (list_is items are.0 parts.0, literals_in c ss ts are.1 parts.1)
literals_in c (sort.Texts ∷ ss) (term.List items ∷ ts) are few = let parts = or_parts (term_passes (term.List items)) (list_any term_passes ts) few in (list_is items are.0 parts.0, literals_in c ss ts are.1 parts.1)
literals_in c (sort.Numbers ∷ ss) (term.List items ∷ ts) are few = let parts = or_parts (term_passes (term.List items)) (list_any term_passes ts) few in (list_is items are.0 parts.0, literals_in c ss ts are.1 parts.1)
literals_in c (s ∷ ss) (term.Descr name ∷ ts) are few = literals_in c ss ts are.1 (or_parts (term_passes (term.Descr name)) (list_any term_passes ts) few).1

-- the fault of a call by what is told of its line
pub call_fault-is : (c : Context) (l : Line) (r : Resolved) → IsResolved c l r → call_fault c (line_slices l) r ≡ fault_of c (statement.Call l)
call_fault-is c l r is = go r.unfit refl
  where
    go : (b : Bool) → r.unfit ≡ b → call_fault c (line_slices l) r ≡ fault_of c (statement.Call l)
    go true e = let f = sym is.unfit ∙ e in rw (is.misnamed, is.passes, e, f) refl
    go false e = let f = sym is.unfit ∙ e in let k = is.call e in rw (is.misnamed, is.passes, is.miskinded, is.misfilled, e, f, k) refl

-- a call without a fault is the one that its line means
pub faultless-call : (c : Context) (slices : Bool) (r : Resolved) → call_fault c slices r ≡ None → (r.unfit ≡ false) × (nat_le most_calls c.calls ≡ false)
faultless-call c slices r e =
    let is = go ((c.version == 1) && slices) (c.ended || not (has_tasks c)) r.misnamed (r.passes || nat_le most_calls c.calls) r.unfit
    (cond (r.miskinded || not (call_kinds_fit (declared_in c) r.call)) (Some cause.Kind) (cond (not (lengths_fit r.call)) (Some cause.Lengths) (cond (not (rules_fit (declared_in c) r.call)) (Some cause.Clash) (cond r.misfilled (Some cause.Fill) None)))) e in
    (is.0, (or_parts r.passes (nat_le most_calls c.calls) is.1).1)
  where
    go : (a b d g u : Bool) (rest : Option Cause) → cond a (Some cause.Syntax) (cond b (Some cause.Order) (cond d (Some cause.Name) (cond g (Some cause.Limit) (cond u (Some cause.View) rest)))) ≡ None → (u ≡ false) × (g ≡ false)
    go true b d g u rest e = cc
    go false true d g u rest e = cc
    go false false true g u rest e = cc
    go false false false true u rest e = cc
    go false false false false true rest e = cc
    go false false false false false rest e = (refl, refl)

-- a view that is told where it fits is none where it does not
pub none-unfit : (unfit : Bool) (v : View) → is_none (cond unfit None (Some v)) ≡ unfit
none-unfit true v = refl
none-unfit false v = refl

-- the operands alone, and with an output
pub resolved-alone : (c : Context) (op : Op) (ts : List Term) (r : Resolved) → AreTaken c op ts r → IsResolved c (record { op = op; operands = ts; out = None }) r
resolved-alone c op ts r are = record {
  misnamed = are.misnamed ∙ sym (or-false (list_any (term_misnamed c) ts));
  passes = are.passes ∙ sym (or-false (list_any term_passes ts));
  unfit = are.unfit ∙ sym (or-false (list_any (term_unfit c) ts));
  miskinded = are.miskinded;
  misfilled = are.misfilled;
  call = λ fit. are.call fit;
}

pub resolved-into : (c : Context) (op : Op) (ts : List Term) (v : ViewTerm) (r s : Resolved) → AreTaken c op ts r → s.misnamed ≡ (r.misnamed || view_misnamed c v) → s.passes ≡ (r.passes || span_passes v.span) → s.unfit ≡ (r.unfit || view_unfit c v)
    → s.miskinded ≡ r.miskinded → s.misfilled ≡ r.misfilled → s.call ≡ record { op = r.call.op; operands = r.call.operands; out = cond (view_unfit c v) None (Some (view_in c v)) } → IsResolved c (record { op = op; operands = ts; out = Some v }) s
resolved-into c op ts v r s are misnamed passes unfit miskinded misfilled call = record {
  misnamed = misnamed ∙ ap (λ b. b || view_misnamed c v) are.misnamed;
  passes = passes ∙ ap (λ b. b || span_passes v.span) are.passes;
  unfit = unfit ∙ ap (λ b. b || view_unfit c v) are.unfit;
  miskinded = miskinded ∙ are.miskinded;
  misfilled = misfilled ∙ are.misfilled;
  call = λ fit.
      let parts = or_parts r.unfit (view_unfit c v) (sym unfit ∙ fit) in
      let before = are.call parts.0 in
      call ∙ ap (λ (k : Call). record { op = k.op; operands = k.operands; out = cond (view_unfit c v) None (Some (view_in c v)) }) before
      ∙ ap (λ b. record { op = op_in c op ts; operands = operands_in c ts; out = cond b None (Some (view_in c v)) }) parts.1;
}
