use Rattle.std.proofs.Common.{◌≡◌, ◌++◌, map, drop}
use Rattle.sa_loop.specs.declared.act.Act.{Act}
use Rattle.sa_loop.specs.Gathers.{act_pair}
use Rattle.sa_loop.specs.Histories.{serial_from}
use Rattle.sa_work.proofs.SerialLemmas.{all_calls}
use Rattle.sa_work.proofs.serial.run_serial.Given as goal

abbrev pub invariant-loop-task : goal.invariant-loop-task
invariant-loop-task l = record {
  decls : l.run.decls.now ≡ l.decls;
  pairs : map act_pair l.run.acts.items ++ serial_from l.task (drop l.task l.tasks) ≡ serial_from 0 l.tasks;
  bodies : map (λ (a : Act). a.body.now) l.run.acts.items ++ all_calls (drop l.task l.tasks) ≡ all_calls l.tasks;
}
