use Rattle.std.proofs.Common.{arith}
use Rattle.sa_tie.proofs.StepLemmas.{may_link}
use Rattle.sa_tie.proofs.steps.link.Goals as goal

pub swap-last-requires : goal.swap-last-requires
swap-last-requires c = (c.requires.of.0, (let words = c.requires.of.1 in omega arith), may_link _ _ _ _ c.requires.part c.requires.noted)
