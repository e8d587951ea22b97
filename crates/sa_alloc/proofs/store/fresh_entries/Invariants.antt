use Rattle.std.proofs.Common.{◌≡◌, replicate}
use Rattle.sa_entry.specs.Slots.{Fresh}
use Rattle.sa_alloc.proofs.store.fresh_entries.Given as goal

abbrev pub invariant-loop : goal.invariant-loop
invariant-loop l = l.entries.items ≡ replicate l.counter Fresh
