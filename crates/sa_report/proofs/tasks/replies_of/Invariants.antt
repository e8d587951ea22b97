use Rattle.std.proofs.Common.{◌≡◌, ◌++◌, drop, map}
use Rattle.sa_report.specs.Reports.{replies_of}
use Rattle.sa_report.proofs.tasks.replies_of.Given as goal

abbrev pub invariant-loop-k : goal.invariant-loop-k
invariant-loop-k g l = map (λ r. r.now) l.replies.items ++ replies_of l.task (drop l.k (g.H.Gathered.pairs l.from)) (drop l.k (g.H.Gathered.replies l.from)) ≡ replies_of l.task (g.H.Gathered.pairs l.from) (g.H.Gathered.replies l.from)
