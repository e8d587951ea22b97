use Rattle.std.proofs.Common.{◌≡◌, drop}
use Rattle.sa_script.specs.Contexts.{declared_in}
use Rattle.sa_script.specs.Kinds.{kinds_read}
use Rattle.sa_script.proofs.context.Context.kinds_read.Given as goal

abbrev pub invariant-sorts : goal.invariant-sorts
invariant-sorts l = kinds_read (declared_in l.self) (drop l.sort-index l.sorts) l.rest ≡ kinds_read (declared_in l.self) l.sorts l.operands
