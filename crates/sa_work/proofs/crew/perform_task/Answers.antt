use Rattle.std.proofs.Common.{◌≡◌, ◌<◌, ℕ, List, [], length, get_or, refl, sym, ap, ◌∙◌, subst, arith}
use Rattle.sa_call.specs.declared.call.Call.{Call}
use Rattle.sa_journal.specs.Journals.{IsOf}
use Rattle.sa_loop.specs.OneHistory.{IsAt, IsDoneTo}
use Rattle.sa_loop.proofs.OpenLemmas.{many-shapes}
use Rattle.sa_work.specs.Crews.{calls_at}
use Rattle.sa_work.proofs.ThreadLemmas.{there}
use Rattle.sa_work.proofs.crew.perform_task.Goals as goal

pub loop-number-init : goal.loop-number-init
loop-number-init g c =
    let script = c.args.crew.now.script.now in
    let B = g.B.Binding in
    let p = c.args.pass.it in
    let tasks = c.as_slice.ensures ∙ c.tasks.ensures.tasks in
    let at : c.index-as_slice-task.result ≡ calls_at script.tasks p.task =
    there c.as_slice.result.now c.task.result c.index-as_slice-task.result [] (subst (λ (ts : List (List Call)). c.task.result < length ts) (sym tasks) (subst (λ (k : ℕ). k < length script.tasks) (sym c.task.ensures) c.requires.task)) c.index-as_slice-task.is
    ∙ (ap (λ (ts : List (List Call)). get_or ts c.task.result []) tasks ∙ ap (calls_at script.tasks) c.task.ensures) in
    let many = many-shapes script.decls B.shapes c.args.crew.now.shapes_are in
    record {
      task = refl;
      of = subst (λ (n : ℕ). IsOf B.roll B.ties n p.chain) (sym many) c.requires.of;
      at = subst (λ (cs : List Call). IsAt script.decls cs 0 p) (sym (c.as_slice-calls.ensures ∙ at)) c.requires.at;
    }

pub returns : goal.returns
returns g c =
    let script = c.args.crew.now.script.now in
    let B = g.B.Binding in
    let p = c.args.pass.it in
    let tasks = c.as_slice.ensures ∙ c.tasks.ensures.tasks in
    let at : c.index-as_slice-task.result ≡ calls_at script.tasks p.task =
    there c.as_slice.result.now c.task.result c.index-as_slice-task.result [] (subst (λ (ts : List (List Call)). c.task.result < length ts) (sym tasks) (subst (λ (k : ℕ). k < length script.tasks) (sym c.task.ensures) c.requires.task)) c.index-as_slice-task.is
    ∙ (ap (λ (ts : List (List Call)). get_or ts c.task.result []) tasks ∙ ap (calls_at script.tasks) c.task.ensures) in
    let calls = c.as_slice-calls.ensures ∙ at in
    let many = many-shapes script.decls B.shapes c.args.crew.now.shapes_are in
    let end : c.loop-number.number ≡ length c.as_slice-calls.result.now = omega (arith, c.loop-number-test.false, c.loop-number.auto.number-end) in
    let l = c.loop-number in
    record {
      task = l.invariant.task;
      done = subst (λ (cs : List Call). IsDoneTo script.decls cs (length cs) l.pass.it.marks l.pass.it.chain.lines) calls
          (subst (λ (n : ℕ). IsDoneTo script.decls c.as_slice-calls.result.now n l.pass.it.marks l.pass.it.chain.lines) end l.invariant.at.done);
      of = subst (λ (n : ℕ). IsOf B.roll B.ties n l.pass.it.chain) many l.invariant.of;
    }
