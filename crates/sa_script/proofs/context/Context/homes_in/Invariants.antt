use Rattle.std.proofs.Common.{◌≡◌, ◌++◌, drop}
use Rattle.sa_call.specs.Calls.{operand_arrays, strings_homes}
use Rattle.sa_script.specs.Contexts.{declared_in}
use Rattle.sa_script.proofs.context.Context.homes_in.Given as goal

-- the homes so far and those of what is left are all
abbrev pub invariant-loop-operand : goal.invariant-loop-operand
invariant-loop-operand l = l.homes.items ++ strings_homes (declared_in l.self) (operand_arrays (drop l.operand-index l.call.operands)) ≡ strings_homes (declared_in l.self) (operand_arrays l.call.operands)
