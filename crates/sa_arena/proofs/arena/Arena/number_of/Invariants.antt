use Rattle.std.proofs.Common.{◌≤◌, ◌<◌, ◌-◌, length}
use Rattle.sa_arena.specs.Extents.{number_at}
use Rattle.sa_arena.proofs.arena.Arena.number_of.Given as goal

abbrev pub invariant-halves : goal.invariant-halves
invariant-halves l = record {
  from : l.low ≤ number_at l.self.extents l.at;
  below : number_at l.self.extents l.at < l.high;
  within : l.high ≤ length l.self-inside.table.items;
}

abbrev pub decreases-halves : goal.decreases-halves
decreases-halves l = l.high - l.low
