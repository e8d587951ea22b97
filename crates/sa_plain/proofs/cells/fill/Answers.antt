use Rattle.std.proofs.Common.{◌∙◌, ap, set, arith}
use Rattle.sa_plain.proofs.GridLemmas.{filled_more}
use Rattle.sa_plain.proofs.cells.fill.Goals as goal

pub loop-k-preserved : goal.loop-k-preserved
loop-k-preserved g c =
    ap (λ xs. set xs c.loop-k.k c.args.value) c.loop-k.invariant ∙ filled_more c.args.cells.now c.loop-k.k c.args.value (omega arith)
