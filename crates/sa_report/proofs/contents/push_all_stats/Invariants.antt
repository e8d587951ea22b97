use Rattle.std.proofs.Common.{◌≡◌, ◌++◌, drop}
use Rattle.sa_loop.specs.Runs.{world_of}
use Rattle.sa_report.specs.Plays.{stats_in}
use Rattle.sa_report.specs.Reports.{stats_lines}
use Rattle.sa_report.proofs.contents.push_all_stats.Given as goal

abbrev pub invariant-loop-k : goal.invariant-loop-k
invariant-loop-k g l = l.out.items ++ stats_lines (drop l.k l.script.names.descrs) (drop l.k (stats_in l.script.decls (world_of (g.H.Gathered.holds l.from)))) ≡ l.fn.out.items ++ stats_lines l.script.names.descrs (stats_in l.script.decls (world_of (g.H.Gathered.holds l.from)))
