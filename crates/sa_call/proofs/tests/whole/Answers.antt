use Rattle.std.proofs.Common.{List, None, sym, subst}
use Rattle.sa_call.specs.declared.call.Operand.{Operand}
use Rattle.sa_call.specs.Told.{AreOperands}
use Rattle.sa_call.specs.Valid.{IsCall}
use Rattle.sa_call.proofs.ValidLemmas.{whole-valid}
use Rattle.sa_call.proofs.tests.whole.Goals as goal

pub evaluate-requires-clause-call : goal.evaluate-requires-clause-call
evaluate-requires-clause-call c =
    let r = c.requires in
    subst (λ (os : List Operand). IsCall c.in_ok-decls.decls (record { op = c.args.op; operands = os; out = None })) (sym c.new.ensures)
    (whole-valid c.in_ok-decls.decls c.args.op c.in_ok-decls.ensures.0 r.takes r.alone r.never r.moves r.first)

pub evaluate-requires-clause-read : goal.evaluate-requires-clause-read
evaluate-requires-clause-read c = subst (λ (os : List Operand). AreOperands c.in_ok-decls.decls (record { op = c.args.op; operands = os; out = None }) c.args.read.now) (sym c.new.ensures) (c.requires.read c.in_ok-decls.decls)
