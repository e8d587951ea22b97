use Rattle.std.proofs.Common.{◌-◌}
use Rattle.sa_crew.proofs.ShareLemmas.{IsWoven}
use Rattle.sa_crew.proofs.shares.woven.Given as goal

abbrev pub invariant-loop-k : goal.invariant-loop-k
invariant-loop-k g l = IsWoven l.skip l.before (l.count - l._k) l.fn.mine.items l.fn.rest.items l.all.items l.mine.rest.items l.rest.rest.items
