use Rattle.std.proofs.Common.{◌≡◌, ◌-◌, ◌++◌, ◌∷◌, [], suc, sym, ap, ◌∙◌, arith, append_assoc}
use Rattle.sa_crew.specs.Shares.{turn_after}
use Rattle.sa_crew.proofs.ShareLemmas.{firsts-here, firsts-there, others-here, others-there, turn-here, turn-there}
use Rattle.sa_crew.proofs.shares.cut.Goals as goal

pub loop-thing-preserved-then-turn-eq0 : goal.loop-thing-preserved-then-turn-eq0
loop-thing-preserved-then-turn-eq0 g c =
    let l = c.loop-thing in
    let skip = c.args.skip in
    let x = c.in-Some.thing in
    let at : turn_after skip 0 l.yielded ≡ 0 = sym l.invariant.turn ∙ c.if-turn-eq0.true in
    record {
      split = append_assoc l.yielded (x ∷ []) c.next.new.self.rest.items ∙ ap (λ ts. l.yielded ++ ts) (sym c.in-Some.ensures.steps.0) ∙ l.invariant.split;
      mine = c.in_ok-push.ensures.items ∙ ap (λ xs. xs ++ x ∷ []) l.invariant.mine ∙ sym (firsts-here skip 0 l.yielded x at);
      rest = l.invariant.rest ∙ sym (others-here skip 0 l.yielded x at);
      turn = sym (turn-here skip 0 l.yielded x at);
    }

pub loop-thing-preserved : goal.loop-thing-preserved
loop-thing-preserved g c =
    let l = c.loop-thing in
    let skip = c.args.skip in
    let x = c.in-Some.thing in
    let some = c.if-turn-eq0.false in
    let less : l.turn ≡ suc (l.turn - 1) = omega arith in
    let at : turn_after skip 0 l.yielded ≡ suc (l.turn - 1) = sym l.invariant.turn ∙ less in
    record {
      split = append_assoc l.yielded (x ∷ []) c.next.new.self.rest.items ∙ ap (λ ts. l.yielded ++ ts) (sym c.in-Some.ensures.steps.0) ∙ l.invariant.split;
      mine = l.invariant.mine ∙ sym (firsts-there skip 0 l.yielded x (l.turn - 1) at);
      rest = c.in_ok-push-2.ensures.items ∙ ap (λ xs. xs ++ x ∷ []) l.invariant.rest ∙ sym (others-there skip 0 l.yielded x (l.turn - 1) at);
      turn = sym (turn-there skip 0 l.yielded x (l.turn - 1) at);
    }
