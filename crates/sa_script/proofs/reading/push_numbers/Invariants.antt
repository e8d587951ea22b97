use Rattle.std.proofs.Common.{◌≡◌, ◌++◌, take}
use Rattle.sa_script.specs.Statements.{left_out}
use Rattle.sa_script.proofs.reading.push_numbers.Given as goal

abbrev pub invariant-loop-number : goal.invariant-loop-number
invariant-loop-number l = l.terms ≡ l.fn.terms ++ left_out (take l.number-index l.numbers)
