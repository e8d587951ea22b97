-- One more operand: it is a view of this descriptor, a view of another, or a literal.
use Rattle.std.proofs.Common.{ℕ, ◌∷◌, [], sym, ap, ◌∙◌, arith}
use Rattle.std.specs.List.{sum_by}
use Rattle.sa_plain.specs.Items.{item_weight}
use Rattle.sa_call.specs.declared.call.Operand.{Operand}
use Rattle.sa_loop.specs.Runs.{shown}
use Rattle.sa_loop.specs.States.{view_items}
use Rattle.sa_loop.specs.Takes.{weight_taken}
use Rattle.sa_loop.proofs.WeighLemmas.{weight-elsewhere, weight-here, weight-next}
use Rattle.sa_loop.proofs.taking.weight_at.Goals as goal
use Rattle.sa_loop.proofs.taking.weight_at.Goals.{in-View+then-home_of-number+in_ok-weight-in-View, in-View+else-home_of-number, in-Literal}

pub loop-operand-preserved : goal.loop-operand-preserved
loop-operand-preserved g c =
    let d = c.args.decls.now in
    let n = c.args.number in
    let s = shown (g.R.Rooms.holds c.args.rooms.now n) in
    let one = λ (o : Operand). weight_taken d s n (o ∷ []) in
    let l = c.loop-operand in
    elim c.match-operand.branch [
      | in-View+then-home_of-number+in_ok-weight-in-View w ↦
          let v = w.in-View.view in
          let weighs = w.in_ok-weight-in-View.ensures.weight ∙ ap (λ (k : ℕ). sum_by item_weight (view_items d (shown (g.R.Rooms.holds c.args.rooms.now k)) v)) (sym w.home_of.ensures ∙ w.if-home_of-number.true) ∙ weight-here d s n v (sym w.home_of.ensures ∙ w.if-home_of-number.true) ∙ ap one (sym w.in-View.is) in
          let most = w.in_ok-weight-in-View.ensures.most in
          record { weight = weight-next d s n c.args.operands.now l.operand-index c.operand-item.result l.weight c.match-operand.weight w.in_ok-weight-in-View.field-0 c.operand-item.is c.loop-operand-test.true l.invariant.weight w.weight-is weighs; most = omega arith }
      | in-View+else-home_of-number w ↦
          let none = weight-elsewhere d s n w.in-View.view (λ same. w.if-home_of-number.false (w.home_of.ensures ∙ same)) ∙ ap one (sym w.in-View.is) in
          record { weight = weight-next d s n c.args.operands.now l.operand-index c.operand-item.result l.weight c.match-operand.weight 0 c.operand-item.is c.loop-operand-test.true l.invariant.weight (omega arith) none; most = omega arith }
      | in-Literal w ↦
          record { weight = weight-next d s n c.args.operands.now l.operand-index c.operand-item.result l.weight c.match-operand.weight 0 c.operand-item.is c.loop-operand-test.true l.invariant.weight (omega arith) (ap one (sym w.in-Literal.is)); most = omega arith }
    ]
