use Rattle.std.proofs.Common.{◌≡◌, ◌++◌, drop}
use Rattle.sa_loop.specs.Runs.{world_of}
use Rattle.sa_report.specs.Plays.{contents_of}
use Rattle.sa_report.specs.Reports.{array_lines}
use Rattle.sa_report.proofs.contents.push_arrays.Given as goal

abbrev pub invariant-loop-k : goal.invariant-loop-k
invariant-loop-k g l = l.out.items ++ array_lines (drop l.k l.script.names.arrays) (drop l.k (contents_of l.script.decls (world_of (g.H.Gathered.holds l.from)))) ≡ l.fn.out.items ++ array_lines l.script.names.arrays (contents_of l.script.decls (world_of (g.H.Gathered.holds l.from)))
