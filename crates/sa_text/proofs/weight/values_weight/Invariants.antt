use Rattle.std.proofs.Common.{◌≡◌, ◌≤◌, ◌*◌, take}
use Rattle.sa_text.specs.Values.{weight_of}
use Rattle.sa_text.proofs.weight.values_weight.Given as goal

abbrev pub invariant-loop-value : goal.invariant-loop-value
invariant-loop-value l = record {
  so_far : l.weight ≡ weight_of (take l.value-index l.values);
  most : l.weight ≤ 65552 * l.value-index;
}
