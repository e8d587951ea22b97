use Rattle.std.proofs.Common.{◌≡◌, ◌++◌, drop}
use Rattle.sa_call.specs.Calls.{operand_arrays, strings_homes}
use Rattle.sa_call.proofs.rules.homes_in.Given as goal

-- the homes so far and those of what is left are all
abbrev pub invariant-loop-operand : goal.invariant-loop-operand
invariant-loop-operand l = l.homes.items ++ strings_homes l.decls (operand_arrays (drop l.operand-index l.call.operands)) ≡ strings_homes l.decls (operand_arrays l.call.operands)
