use Rattle.std.proofs.Common.{◌≡◌, ◌++◌, drop}
use Rattle.std.proofs.Math.ListN.{replicate}
use Rattle.sa_plain.proofs.cells.fill.Given as goal

abbrev pub invariant-loop-k : goal.invariant-loop-k
invariant-loop-k g l = l.cells ≡ replicate l.k l.value ++ drop l.k l.fn.cells
