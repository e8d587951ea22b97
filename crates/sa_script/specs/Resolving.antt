-- What is told of a call's line under the declarations so far, and of its terms one by one.
use Rattle.std.specs.Prelude.{◌≡◌, ℕ, ◌==◌, nat_le, Bool, true, false, ◌||◌, ◌&&◌, not, List, [], ◌∷◌, ◌++◌, Option, Some, None, if◌then◌else◌}
use Rattle.std.specs.List.{AllByRecursion, list_all, list_any}
use Rattle.sa_view.specs.declared.view.View.{View}
use Rattle.sa_call.specs.declared.call.Op.{Op}
use Rattle.sa_call.specs.declared.call.Operand.TheVariants as operand
use Rattle.sa_call.specs.declared.call.Call.{Call}
use Rattle.sa_call.specs.Calls.{lengths_fit}
use Rattle.sa_call.specs.Forms.{on_descr}
use Rattle.sa_call.specs.Decls.{Declared}
use Rattle.sa_call.specs.Valid.{IsLiteralOperand, fit_table, is_operand_of, is_output_of, call_kinds_fit, rules_fit}
use Rattle.sa_script.specs.declared.cause.Cause.{Cause}
use Rattle.sa_script.specs.declared.cause.Cause.TheVariants as cause
use Rattle.sa_script.specs.declared.context.Context.{Context}
use Rattle.sa_script.specs.declared.resolving.Resolved.{Resolved}
use Rattle.sa_script.specs.declared.statement.Span.{Span}
use Rattle.sa_script.specs.declared.statement.Term.{Term}
use Rattle.sa_script.specs.declared.statement.Term.TheVariants as term
use Rattle.sa_script.specs.declared.statement.Line.{Line}
use Rattle.sa_script.specs.Contexts.{declared_in, home_number}
use Rattle.sa_script.specs.Faults.{has_tasks}
use Rattle.sa_script.specs.Limits.{most_calls}
use Rattle.sa_script.specs.Terms.{span_fits, view_at, view_in, term_misnamed, term_passes, term_unfit, term_miskinded, term_misfilled, line_misnamed, line_passes, line_unfit, line_miskinded, line_misfilled, given_items, fill_of, filled, op_in, operands_in, call_in}

-- the view that a span means, none where it means none of the array
abbrev pub fitting_view : ℕ → ℕ → Span → Option View
fitting_view array len span = if span_fits array len span then Some (view_at array len span) else None

-- a call with one more term of its line
abbrev pub with_term : Context → Call → Term → Call
with_term c call (term.View v) = record call { operands = call.operands ++ operand.View (view_in c v) ∷ [] }
with_term c call (term.List items) = record call { operands = call.operands ++ operand.Literal (given_items items) ∷ [] }
with_term c call (term.Fill items) = record call { op = filled call.op (fill_of (given_items items)) }
with_term c call (term.Descr name) = record call { op = on_descr call.op (home_number c name) }

-- one more term was taken in; the call is told where each view is one of its array
pub record IsTaken (c : Context) (before : Resolved) (t : Term) (after : Resolved) : Type 0 where
  pub misnamed : after.misnamed ≡ (before.misnamed || term_misnamed c t)
  pub passes : after.passes ≡ (before.passes || term_passes t)
  pub unfit : after.unfit ≡ (before.unfit || term_unfit c t)
  pub miskinded : after.miskinded ≡ (before.miskinded || term_miskinded t)
  pub misfilled : after.misfilled ≡ (before.misfilled || term_misfilled t)
  pub call : term_unfit c t ≡ false → after.call ≡ with_term c before.call t

-- what these operands alone mean
abbrev pub call_of_terms : Context → Op → List Term → Call
call_of_terms c op ts = record { op = op_in c op ts; operands = operands_in c ts; out = None }

-- these operands were taken in
pub record AreTaken (c : Context) (op : Op) (ts : List Term) (r : Resolved) : Type 0 where
  pub misnamed : r.misnamed ≡ list_any (term_misnamed c) ts
  pub passes : r.passes ≡ list_any term_passes ts
  pub unfit : r.unfit ≡ list_any (term_unfit c) ts
  pub miskinded : r.miskinded ≡ list_any term_miskinded ts
  pub misfilled : r.misfilled ≡ list_any term_misfilled ts
  pub call : r.unfit ≡ false → r.call ≡ call_of_terms c op ts

-- a line is told: what is wrong with it, and the call that it means where each view is one of its array
pub record IsResolved (c : Context) (l : Line) (r : Resolved) : Type 0 where
  pub misnamed : r.misnamed ≡ line_misnamed c l
  pub passes : r.passes ≡ line_passes l
  pub unfit : r.unfit ≡ line_unfit c l
  pub miskinded : r.miskinded ≡ line_miskinded l
  pub misfilled : r.misfilled ≡ line_misfilled l
  pub call : r.unfit ≡ false → r.call ≡ call_in c l

-- What a call keeps by its spelling and its names alone: its operands are those of the table, its views are of declared arrays and fit them, and its lists are literals.
pub record IsMeant (d : Declared) (call : Call) : Type 0 where
  pub sorts : fit_table call.op call.operands ≡ true
  pub views : list_all (is_operand_of d) call.operands ≡ true
  pub into : is_output_of d call.out ≡ true
  pub literals : AllByRecursion IsLiteralOperand call.operands

-- the first fault of a call of which this is known, in the order of their numbers
abbrev pub call_fault : Context → Bool → Resolved → Option Cause
call_fault c slices r =
    if (c.version == 1) && slices then Some cause.Syntax
    else (if c.ended || not (has_tasks c) then Some cause.Order
    else (if r.misnamed then Some cause.Name
    else (if r.passes || nat_le most_calls c.calls then Some cause.Limit
    else (if r.unfit then Some cause.View
    else (if r.miskinded || not (call_kinds_fit (declared_in c) r.call) then Some cause.Kind
    else (if not (lengths_fit r.call) then Some cause.Lengths
    else (if not (rules_fit (declared_in c) r.call) then Some cause.Clash
    else (if r.misfilled then Some cause.Fill
    else None))))))))
