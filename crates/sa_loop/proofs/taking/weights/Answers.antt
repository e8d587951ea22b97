-- One more descriptor: the call is on it or not.
use Rattle.std.proofs.Common.{◌≤◌, ◌*◌, ℕ, List, length, sum, sym, ap, ◌∙◌, subst, arith}
use Rattle.sa_call.specs.declared.call.Operand.{Operand}
use Rattle.sa_call.specs.Forms.{entry}
use Rattle.sa_call.specs.Told.{is_named}
use Rattle.sa_loop.specs.Held.{AreHeld}
use Rattle.sa_loop.specs.Runs.{shown}
use Rattle.sa_loop.specs.Takes.{weight, weight_taken}
use Rattle.sa_loop.proofs.TakeLemmas.{are-held, are-short, given-same}
use Rattle.sa_loop.proofs.WeighLemmas.{sum-more, weight-same, weights-named, weights-other}
use Rattle.sa_loop.proofs.taking.weights.Goals as goal
use Rattle.sa_loop.proofs.taking.weights.Goals.{then-is_named+in_ok-weight+in_ok-push, else-is_named}

pub weight_at-requires-clause-held : goal.weight_at-requires-clause-held
weight_at-requires-clause-held g c =
    let has = g.R.Rooms.has c.args.rooms.now in
    let holds = g.R.Rooms.holds c.args.rooms.now in
    subst (λ (os : List Operand). AreHeld c.args.decls.now has holds os) (sym c.as_slice-operands.ensures) (are-held c.args.decls.now has holds c.args.call.now c.requires.can)

pub weight_at-requires-clause-few : goal.weight_at-requires-clause-few
weight_at-requires-clause-few g c =
    let few = (are-short c.args.decls.now c.args.call.now c.requires.items c.requires.can.valid).few in
    let lent = ap length c.as_slice-operands.ensures in
    omega arith

pub overflow_add-together : goal.overflow_add-together
overflow_add-together g c =
    let few = (are-short c.args.decls.now c.args.call.now c.requires.items c.requires.can.valid).few in
    let lent = ap length c.as_slice-operands.ensures in
    let most : c.in_ok-weight.weight ≤ 537001984 * length c.as_slice-operands.result.now = c.in_ok-weight.ensures.most in
    let before : c.loop-number.together ≤ 4296015872 * c.loop-number.number = c.loop-number.invariant.most in
    let below = c.loop-number-test.true in
    let descrs = c.requires.can.declared.descrs in
    let all = ap length c.descrs-number-end.ensures in
    omega (arith, c.loop-number.auto.number-end)

pub loop-number-preserved : goal.loop-number-preserved
loop-number-preserved g c =
    let d = c.args.decls.now in
    let call = c.args.call.now in
    let l = c.loop-number in
    let n = l.number in
    let s = λ (k : ℕ). shown (g.R.Rooms.holds c.args.rooms.now k) in
    let weigh = λ (k : ℕ). weight d (s k) call k in
    elim c.if-is_named.branch [
      | then-is_named+in_ok-weight+in_ok-push w ↦
          let named = sym c.is_named.ensures ∙ w.if-is_named.true in
          let one = w.in_ok-weight.ensures.weight ∙ ap (λ (os : List Operand). weight_taken d (s n) n os) w.as_slice-operands.ensures ∙ sym (weight-same (entry call.op).gives d (s n) call n (given-same call.op c.requires.items)) in
          let more = w.weights-is ∙ w.in_ok-push.ensures.ok in
          let few = (are-short d call c.requires.items c.requires.can.valid).few in
          let lent = ap length w.as_slice-operands.ensures in
          let most : w.in_ok-weight.weight ≤ 537001984 * length w.as_slice-operands.result.now = w.in_ok-weight.ensures.most in
          record {
            weights = weights-named weigh (is_named d call) n l.weights c.if-is_named.weights w.in_ok-weight.weight l.invariant.weights named one more;
            together = sum-more l.weights c.if-is_named.weights w.in_ok-weight.weight l.together c.if-is_named.together l.invariant.together more w.together-is;
            most = omega arith;
          }
      | else-is_named w ↦
          let other = sym c.is_named.ensures ∙ w.if-is_named.false in
          record {
            weights = weights-other weigh (is_named d call) n l.weights c.if-is_named.weights l.invariant.weights other w.weights-is;
            together = w.together-is ∙ l.invariant.together ∙ ap sum (sym w.weights-is);
            most = omega arith;
          }
    ]
