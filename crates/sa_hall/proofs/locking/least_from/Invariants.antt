use Rattle.std.proofs.Common.{◌≡◌, drop}
use Rattle.sa_hall.specs.Least.{least_in, least_from}
use Rattle.sa_hall.proofs.locking.least_from.Given as goal

abbrev pub invariant-loop-number : goal.invariant-loop-number
invariant-loop-number l = least_in l.bound l.least (drop l.number-index l.numbers) ≡ least_from l.bound l.numbers
