use Rattle.std.proofs.Common.{◌≡◌, ◌++◌, ◌-◌}
use Rattle.std.specs.List.{flat_map}
use Rattle.sa_loop.specs.Histories.{marked_calls}
use Rattle.sa_report.specs.Reports.{spaced_pair}
use Rattle.sa_report.proofs.tasks.push_task_marks.Given as goal

abbrev pub invariant-loop-call : goal.invariant-loop-call
invariant-loop-call g l = l.out.items ++ flat_map spaced_pair (marked_calls (g.H.Gathered.marks l.from l.task) l.task l.call (l.calls - l.call)) ≡ l.fn.out.items ++ flat_map spaced_pair (marked_calls (g.H.Gathered.marks l.from l.task) l.task 0 l.calls)
