use Rattle.std.proofs.Common.{◌≡◌, ◌++◌, ◌-◌, drop, map}
use Rattle.sa_report.specs.Reports.{call_lines}
use Rattle.sa_report.proofs.tasks.push_calls.Given as goal

abbrev pub invariant-loop-call : goal.invariant-loop-call
invariant-loop-call g l = l.out.items ++ call_lines (g.H.Gathered.marks l.from l.task) l.call (l.calls - l.call) (drop l.next (map (λ r. r.now) l.replies)) ≡ l.fn.out.items ++ call_lines (g.H.Gathered.marks l.from l.task) 0 l.calls (map (λ r. r.now) l.replies)
