use Rattle.std.proofs.Common.{◌≡◌, ◌≤◌, ◌*◌, length, take, sum_by}
use Rattle.sa_plain.proofs.rows.Rows.count_cells.Given as goal

abbrev pub invariant-loop-row : goal.invariant-loop-row
invariant-loop-row g l = (l.count ≡ sum_by (λ row. length row) (take l.row-index l.row-items)) × (l.count ≤ 257 * l.row-index)
