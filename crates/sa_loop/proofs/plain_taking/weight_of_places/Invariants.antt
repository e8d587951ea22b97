use Rattle.std.proofs.Common.{◌≡◌, ◌≤◌, ◌*◌, take, sum_by}
use Rattle.sa_plain.specs.Items.{item_weight}
use Rattle.sa_plain.specs.Plains.{items_at}
use Rattle.sa_loop.proofs.plain_taking.weight_of_places.Given as goal

abbrev pub invariant-loop-place : goal.invariant-loop-place
invariant-loop-place l = record {
  weight : l.weight ≡ sum_by item_weight (items_at l.plain (take l.place-index l.places));
  most : l.weight ≤ 65552 * l.place-index;
}
