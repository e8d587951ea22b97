use Rattle.std.proofs.Common.{◌≡◌, map}
use Rattle.std.specs.List.{range_with_len}
use Rattle.sa_alloc.specs.Layouts.{entry_image}
use Rattle.sa_alloc.proofs.store.Store.image_entries.Given as goal

abbrev pub invariant-loop-entry : goal.invariant-loop-entry
invariant-loop-entry l = l.slots.items ≡ map (entry_image l.self.contents.layout) (range_with_len 0 l.entry)
