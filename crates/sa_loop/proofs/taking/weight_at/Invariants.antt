use Rattle.std.proofs.Common.{◌≡◌, ◌≤◌, ◌+◌, ◌*◌, drop}
use Rattle.sa_loop.specs.Runs.{shown}
use Rattle.sa_loop.specs.Takes.{weight_taken}
use Rattle.sa_loop.proofs.taking.weight_at.Given as goal

-- the weight so far and that of what is left are all
abbrev pub invariant-loop-operand : goal.invariant-loop-operand
invariant-loop-operand g l = record {
  weight : l.weight + weight_taken l.decls (shown (g.R.Rooms.holds l.rooms l.number)) l.number (drop l.operand-index l.operands) ≡ weight_taken l.decls (shown (g.R.Rooms.holds l.rooms l.number)) l.number l.operands;
  most : l.weight ≤ 537001984 * l.operand-index;
}
