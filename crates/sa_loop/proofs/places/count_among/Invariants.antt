use Rattle.std.proofs.Common.{◌≡◌, ◌≤◌, take, count_by}
use Rattle.sa_call.specs.Told.{is_among}
use Rattle.sa_loop.proofs.places.count_among.Given as goal

abbrev pub invariant-loop-array : goal.invariant-loop-array
invariant-loop-array l = record {
  count : l.count ≡ count_by (is_among l.strings l.home) (take l.array-index l.arrays);
  most : l.count ≤ l.array-index;
}
