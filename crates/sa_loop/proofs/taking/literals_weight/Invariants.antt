use Rattle.std.proofs.Common.{◌≡◌, ◌≤◌, ◌*◌, take, sum_by}
use Rattle.sa_call.specs.Parts.{literal_weight}
use Rattle.sa_loop.proofs.taking.literals_weight.Given as goal

abbrev pub invariant-loop-operand : goal.invariant-loop-operand
invariant-loop-operand l = record {
  weight : l.weight ≡ sum_by literal_weight (take l.operand-index l.operands);
  most : l.weight ≤ 537001984 * l.operand-index;
}
