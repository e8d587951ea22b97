use Rattle.std.proofs.Common.{◌≡◌, ◌≤◌, ◌*◌, map, take, sum_by}
use Rattle.sa_plain.specs.Items.{items_weight}
use Rattle.sa_call.proofs.columns.columns_weight.Given as goal

abbrev pub invariant-loop-column : goal.invariant-loop-column
invariant-loop-column l = record {
  weight : l.weight ≡ sum_by items_weight (map (λ c. c.now) (take l.column-index l.columns));
  most : l.weight ≤ 537001984 * l.column-index;
}
