use Rattle.std.proofs.Common.{arith}
use Rattle.std.proofs.lemmas.Grind.{common_steps}
use Rattle.std.proofs.lemmas.List.{get_or_default}
use Rattle.sa_plain.proofs.cells.cells_at.Goals as goal

pub loop-place-preserved : goal.loop-place-preserved
loop-place-preserved g c = λ d. grind (arith, common_steps, c.loop-place.invariant d, get_or_default)

pub returns : goal.returns
returns g c = λ d. grind (arith, common_steps, c.loop-place.invariant d)
