use Rattle.std.proofs.Common.{◌≡◌, drop}
use Rattle.sa_view.specs.Broadcasts.{broadcast, broadcast_on}
use Rattle.sa_view.proofs.counts.broadcast.Given as goal

-- what the length so far and the counts that are left give is what all give
abbrev pub invariant-loop-count : goal.invariant-loop-count
invariant-loop-count l = broadcast_on l.length (drop l.count-index l.counts) ≡ broadcast l.counts
