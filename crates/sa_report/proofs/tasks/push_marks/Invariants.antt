use Rattle.std.proofs.Common.{◌≡◌, ◌++◌, drop, map, length}
use Rattle.std.specs.List.{flat_map}
use Rattle.sa_loop.specs.Histories.{marked_from}
use Rattle.sa_report.specs.Reports.{spaced_pair}
use Rattle.sa_report.proofs.tasks.push_marks.Given as goal

abbrev pub invariant-loop-task : goal.invariant-loop-task
invariant-loop-task g l = l.out.items ++ flat_map spaced_pair (marked_from (g.H.Gathered.marks l.from) l.task (drop l.task (map length l.tasks))) ≡ l.fn.out.items ++ flat_map spaced_pair (marked_from (g.H.Gathered.marks l.from) 0 (map length l.tasks))
