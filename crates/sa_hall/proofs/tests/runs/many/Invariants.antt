use Rattle.std.proofs.Common.{◌≡◌, length}
use Rattle.sa_journal.specs.Journals.{IsOf}
use Rattle.sa_hall.proofs.tests.runs.many.Given as goal

abbrev pub invariant-loop-call : goal.invariant-loop-call
invariant-loop-call g l = record { task : l.pass.it.task ≡ l.fn.pass.it.task; of : IsOf g.B.Binding.roll g.B.Binding.ties (length g.B.Binding.shapes) l.pass.it.chain }
