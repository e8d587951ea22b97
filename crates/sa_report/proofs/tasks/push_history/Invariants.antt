use Rattle.std.proofs.Common.{◌≡◌, ◌++◌, drop}
use Rattle.std.specs.List.{flat_map}
use Rattle.sa_report.specs.Reports.{spaced_pair}
use Rattle.sa_report.proofs.tasks.push_history.Given as goal

abbrev pub invariant-loop-k : goal.invariant-loop-k
invariant-loop-k g l = l.out.items ++ flat_map spaced_pair (drop l.k (g.H.Gathered.pairs l.from)) ≡ l.fn.out.items ++ flat_map spaced_pair (g.H.Gathered.pairs l.from)
