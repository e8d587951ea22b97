use Rattle.std.proofs.Common.{◌≡◌, take, map}
use Rattle.sa_call.specs.Calls.{operand_count}
use Rattle.sa_script.proofs.faults.operand_counts.Given as goal

abbrev pub invariant-loop-operand : goal.invariant-loop-operand
invariant-loop-operand l = l.counts.items ≡ map operand_count (take l.operand-index l.operands)
