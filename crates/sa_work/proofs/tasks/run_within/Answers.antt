use Rattle.std.proofs.Common.{◌≡◌, List, length, map, sym, ap, ◌∙◌, subst}
use Rattle.std.specs.List.{AllByRecursion, AllZip}
use Rattle.sa_call.specs.declared.call.Call.{Call}
use Rattle.sa_call.specs.Decls.{Declared}
use Rattle.sa_hall.specs.Passes.{PassValue}
use Rattle.sa_loop.specs.declared.act.Act.{Act}
use Rattle.sa_loop.specs.Openings.{AreOpeningPasses}
use Rattle.sa_work.specs.Crews.{IsDone, IsReady}
use Rattle.sa_work.proofs.ThreadLemmas.{done-all, ready-all}
use Rattle.sa_work.proofs.tasks.run_within.Goals as goal

pub work_all-requires-clause-ready : goal.work_all-requires-clause-ready
work_all-requires-clause-ready g c κs within =
    let B = g.B.Binding in
    let script = c.args.script.now in
    let counts = c.as_slice-2.ensures.value ∙ c.in_ok-counts.ensures ∙ ap (map (length {A = Call})) (c.as_slice.ensures ∙ c.tasks.ensures.tasks) in
    let opening = subst (λ (d : Declared). AreOpeningPasses B.roll B.ties (length d.descrs) 0 c.as_slice-2.result.now (map (λ (p : PassValue Act). p.it) c.in_ok-journal.field-0.passes.items)) c.decls.ensures c.in_ok-journal.ensures.passes in
    ready-all B.roll B.ties script c.as_slice-2.result.now c.in_ok-journal.field-0.passes.items counts opening

pub gather-requires-clause-done : goal.gather-requires-clause-done
gather-requires-clause-done g c =
    let B = g.B.Binding in
    let script = c.args.script.now in
    let counts = c.as_slice-2.ensures.value ∙ c.in_ok-counts.ensures ∙ ap (map (length {A = Call})) (c.as_slice.ensures ∙ c.tasks.ensures.tasks) in
    let opening = subst (λ (d : Declared). AreOpeningPasses B.roll B.ties (length d.descrs) 0 c.as_slice-2.result.now (map (λ (p : PassValue Act). p.it) c.in_ok-journal.field-0.passes.items)) c.decls.ensures c.in_ok-journal.ensures.passes in
    done-all B.roll B.ties script c.as_slice-2.result.now c.in_ok-journal.field-0.passes.items c.in_ok-passes.passes.items counts opening c.in_ok-passes.ensures
