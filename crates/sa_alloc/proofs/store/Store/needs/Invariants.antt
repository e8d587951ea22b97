use Rattle.std.proofs.Common.{◌≡◌, ◌≤◌, ◌*◌, take}
use Rattle.sa_alloc.specs.Needs.{bytes_most, keys_most}
use Rattle.sa_alloc.specs.Stores.{puts_from}
use Rattle.sa_alloc.proofs.store.Store.needs.Given as goal

abbrev pub invariant-loop-place : goal.invariant-loop-place
invariant-loop-place l = record {
  bytes : l.bytes ≡ bytes_most l.self.contents.slots (puts_from l.first (take l.place-index l.puts));
  keys : l.keys ≡ keys_most l.self.contents.slots (puts_from l.first (take l.place-index l.puts));
  few_bytes : l.bytes ≤ 65544 * l.place-index;
  few_keys : l.keys ≤ l.place-index;
}
