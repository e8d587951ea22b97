use Rattle.std.proofs.Common.{◌≡◌, map, take}
use Rattle.sa_call.specs.Calls.{operand_count}
use Rattle.sa_call.proofs.evaluating.elements_in.Given as goal

abbrev pub invariant-loop-operand : goal.invariant-loop-operand
invariant-loop-operand l = l.counts.items ≡ map operand_count (take l.operand-index l.call.operands)
