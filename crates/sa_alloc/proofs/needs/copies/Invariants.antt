use Rattle.std.proofs.Common.{◌≡◌, take}
use Rattle.std.specs.List.{zip}
use Rattle.sa_text.specs.Values.{stretched}
use Rattle.sa_alloc.proofs.needs.copies.Given as goal

abbrev pub invariant-loop-k : goal.invariant-loop-k
invariant-loop-k l = l.puts.items ≡ zip (take l.k l.places) (take l.k (stretched l.count l.values))
