use Rattle.std.proofs.Common.{◌≡◌, take}
use Rattle.sa_text.specs.Values.{stretched}
use Rattle.sa_text.proofs.value_list.copies_with_room.Given as goal

abbrev pub invariant-loop-k : goal.invariant-loop-k
invariant-loop-k l = l.copies.items ≡ take l.k (stretched l.count l.values)
