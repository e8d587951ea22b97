use Rattle.std.proofs.Common.{◌≡◌, ◌≤◌, length, take, None}
use Rattle.sa_arena.specs.Extents.{with_text, trimmed}
use Rattle.sa_arena.proofs.arena.Arena.count_without.Given as goal

abbrev pub invariant-dead : goal.invariant-dead
invariant-dead l = record {
  within : l.count ≤ length l.self.extents;
  same : trimmed (take l.count (with_text l.self.extents l.number None)) ≡ trimmed (with_text l.self.extents l.number None);
}

abbrev pub decreases-dead : goal.decreases-dead
decreases-dead l = l.count
