use Rattle.std.proofs.Common.{◌≡◌, ◌++◌, drop}
use Rattle.sa_report.specs.Reports.{task_lines}
use Rattle.sa_report.proofs.tasks.push_tasks.Given as goal

abbrev pub invariant-loop-task : goal.invariant-loop-task
invariant-loop-task g l = l.out.items ++ task_lines (g.H.Gathered.pairs l.from) (g.H.Gathered.marks l.from) (g.H.Gathered.replies l.from) l.task (drop l.task l.tasks) ≡ l.fn.out.items ++ task_lines (g.H.Gathered.pairs l.from) (g.H.Gathered.marks l.from) (g.H.Gathered.replies l.from) 0 l.tasks
