use Rattle.sa_journal.specs.Chains.{keyed}
use Rattle.sa_journal.proofs.WalkLemmas.{IsWalked}
use Rattle.sa_journal.proofs.ended.Ended.walk.Given as goal

abbrev pub invariant-loop-token : goal.invariant-loop-token
invariant-loop-token g l = IsWalked g.D.Deed.said l.chain.it.party l.chain.it.lines (keyed l.token-items) l.at l.token-index
