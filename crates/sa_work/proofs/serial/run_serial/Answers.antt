use Rattle.std.proofs.Common.{◌≡◌, List, map, sym, ap, ap₂, ◌∙◌}
use Rattle.sa_call.specs.declared.call.Call.{Call}
use Rattle.sa_loop.specs.declared.act.Act.{Act}
use Rattle.sa_loop.specs.Histories.{bodies_of, serial}
use Rattle.sa_work.proofs.SerialLemmas.{all_calls, serial-calls, ended}
use Rattle.sa_work.proofs.serial.run_serial.Goals as goal

pub returns-clause-bodies : goal.returns-clause-bodies
returns-clause-bodies c =
    ended c.as_slice-tasks.result.now c.loop-task.task (map (λ (a : Act). a.body.now) c.loop-task.run.acts.items) (all_calls c.as_slice-tasks.result.now) c.loop-task-test.false c.loop-task.invariant.bodies
    ∙ (ap all_calls (c.as_slice-tasks.ensures ∙ c.tasks.ensures.tasks) ∙ sym (serial-calls c.args.script.now.tasks))
