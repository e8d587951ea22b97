use Rattle.std.proofs.Common.{◌≡◌, take}
use Rattle.sa_hall.proofs.held.Held.take_all.Given as goal

abbrev pub invariant-loop-number : goal.invariant-loop-number
invariant-loop-number g l = record { numbers : l.self.numbers ≡ take l.number-index l.locks; pass : l.self.pass ≡ l.fn.self.pass }
