use Rattle.std.proofs.Common.{◌≡◌, ◌≤◌, ◌+◌, ◌*◌, length, map, take}
use Rattle.std.specs.List.{flat_map}
use Rattle.sa_alloc.specs.Copies.{long_text}
use Rattle.sa_alloc.specs.Layouts.{value_at}
use Rattle.sa_alloc.proofs.store.Store.long_texts.Given as goal

abbrev pub invariant-loop-place : goal.invariant-loop-place
invariant-loop-place l = record {
  texts : l.bytes.items ≡ flat_map long_text (map (λ p. value_at l.self.contents.layout (l.first + p)) (take l.place-index l.places));
  few : length l.bytes.items ≤ 65536 * l.place-index;
}
