use Rattle.std.proofs.Common.{◌≡◌, ◌+◌, map, take}
use Rattle.sa_alloc.specs.Layouts.{value_at}
use Rattle.sa_alloc.proofs.CopyLemmas.{Left}
use Rattle.sa_alloc.proofs.store.Store.values_over.Given as goal

abbrev pub invariant-loop-place : goal.invariant-loop-place
invariant-loop-place l = record {
  values : l.values.items ≡ map (λ p. value_at l.self.contents.layout (l.first + p)) (take l.place-index l.places);
  left : Left (map (λ p. value_at l.self.contents.layout (l.first + p)) l.places) l.block l.place-index l.start;
}
