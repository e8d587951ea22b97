use Rattle.std.proofs.Common.{◌≡◌, length, map, take}
use Rattle.sa_work.proofs.tasks.call_counts.Given as goal

abbrev pub invariant-loop-calls : goal.invariant-loop-calls
invariant-loop-calls l = l.counts.items ≡ map length (take l.calls-index l.tasks)
