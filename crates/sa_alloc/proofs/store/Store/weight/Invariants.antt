use Rattle.std.proofs.Common.{◌≡◌, ◌≤◌, ◌+◌, ◌*◌, take}
use Rattle.std.specs.List.{sum_by}
use Rattle.sa_text.specs.Values.{value_weight}
use Rattle.sa_alloc.specs.Layouts.{value_at}
use Rattle.sa_alloc.proofs.store.Store.weight.Given as goal

abbrev pub invariant-loop-place : goal.invariant-loop-place
invariant-loop-place l = record {
  weight : l.weight ≡ sum_by (λ p. value_weight (value_at l.self.contents.layout (l.first + p))) (take l.place-index l.places);
  few : l.weight ≤ 65552 * l.place-index;
}
