use Rattle.std.proofs.Common.{◌≡◌, ◌≤◌, take}
use Rattle.std.specs.List.{count_by}
use Rattle.sa_report.specs.Summaries.{is_done, is_refused}
use Rattle.sa_report.proofs.summing.counts.Given as goal

abbrev pub invariant-loop-k : goal.invariant-loop-k
invariant-loop-k g l =
    (l.done ≡ count_by is_done (take l.k (g.H.Gathered.replies l.from)))
    × (l.refused ≡ count_by is_refused (take l.k (g.H.Gathered.replies l.from)))
    × (l.done ≤ l.k)
    × (l.refused ≤ l.k)
