use Rattle.std.proofs.Common.{◌≡◌, ◌++◌, ◌-◌, length, map, drop}
use Rattle.sa_loop.specs.declared.act.Act.{Act}
use Rattle.sa_loop.specs.Gathers.{act_pair}
use Rattle.sa_loop.specs.Histories.{pairs_from}
use Rattle.sa_work.proofs.serial.perform_task.Given as goal

abbrev pub invariant-loop-number : goal.invariant-loop-number
invariant-loop-number l = record {
  decls : l.run.decls.now ≡ l.fn.run.decls.now;
  pairs : map act_pair l.run.acts.items ++ pairs_from l.task l.number (length l.calls - l.number) ≡ map act_pair l.fn.run.acts.items ++ pairs_from l.task 0 (length l.calls);
  bodies : map (λ (a : Act). a.body.now) l.run.acts.items ++ drop l.number l.calls ≡ map (λ (a : Act). a.body.now) l.fn.run.acts.items ++ l.calls;
}
