use Rattle.std.proofs.Common.{◌≡◌, replicate, None}
use Rattle.sa_loop.proofs.performing.unread.Given as goal

abbrev pub invariant-loop-k : goal.invariant-loop-k
invariant-loop-k l = l.lasts.items ≡ replicate l._k None
