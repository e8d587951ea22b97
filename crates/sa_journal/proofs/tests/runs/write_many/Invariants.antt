use Rattle.std.proofs.Common.{◌≡◌}
use Rattle.sa_journal.proofs.tests.runs.write_many.Given as goal

abbrev pub invariant-loop-call : goal.invariant-loop-call
invariant-loop-call g l = l.pass.task ≡ l.fn.pass.task
