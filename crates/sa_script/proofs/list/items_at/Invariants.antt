use Rattle.std.proofs.Common.{◌≡◌, ◌-◌, length, Some, []}
use Rattle.sa_script.specs.Items.{items_at}
use Rattle.sa_script.proofs.list.items_at.Given as goal

abbrev pub invariant-items : goal.invariant-items
invariant-items g l = items_at g.T.Item.at (length l.bytes - l.counter) l.so_far l.rest ≡ items_at g.T.Item.at (length l.bytes) (Some []) l.bytes
