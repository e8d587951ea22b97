use Rattle.std.proofs.Common.{◌≡◌, map, take}
use Rattle.sa_plain.specs.Spreads.{filled}
use Rattle.sa_plain.proofs.rows.Rows.widened.Given as goal

abbrev pub invariant-loop-row : goal.invariant-loop-row
invariant-loop-row g l = l.wide ≡ map (filled l.width l.item) (take l.row-index l.row-items)
