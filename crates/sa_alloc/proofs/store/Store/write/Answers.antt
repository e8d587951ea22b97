-- Each put takes one off what is left of the plan.
use Rattle.std.proofs.Common.{subst}
use Rattle.sa_alloc.proofs.WriteLemmas.{IsWriting, writes-on}
use Rattle.sa_alloc.proofs.store.Store.write.Goals as goal

pub loop-place-preserved : goal.loop-place-preserved
loop-place-preserved c =
    let before = subst (IsWriting _ _ c.loop-place.self c.first-first.result) c.in-Some.ensures.steps.0 c.loop-place.invariant.writing in
    record { can = tt; finite = tt; writing = writes-on _ _ _ _ _ (c.in-Some.place, c.in-Some.value) _ before c.put.ensures.layout c.put.ensures.slots c.put.ensures.size c.put.ensures.spare }
