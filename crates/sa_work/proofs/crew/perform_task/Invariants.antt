use Rattle.std.proofs.Common.{◌≡◌, length}
use Rattle.sa_journal.specs.Journals.{IsOf}
use Rattle.sa_loop.specs.OneHistory.{IsAt}
use Rattle.sa_work.proofs.crew.perform_task.Given as goal

abbrev pub invariant-loop-number : goal.invariant-loop-number
invariant-loop-number g l = record {
  task : l.pass.it.task ≡ l.fn.pass.it.task;
  of : IsOf g.B.Binding.roll g.B.Binding.ties (length g.B.Binding.shapes) l.pass.it.chain;
  at : IsAt l.crew.script.now.decls l.calls l.number l.pass.it;
}
