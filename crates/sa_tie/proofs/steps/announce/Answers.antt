use Rattle.std.proofs.Common.{arith}
use Rattle.sa_tie.proofs.StepLemmas.{may_announce}
use Rattle.sa_tie.proofs.steps.announce.Goals as goal

pub swap-last-requires : goal.swap-last-requires
swap-last-requires c = (c.requires.of.0, (let words = c.requires.of.1 in omega arith), may_announce _ _ _ _ c.requires.part c.requires.closed)
