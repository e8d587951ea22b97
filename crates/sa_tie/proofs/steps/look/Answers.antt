use Rattle.std.proofs.Common.{arith}
use Rattle.sa_tie.proofs.StepLemmas.{may_look}
use Rattle.sa_tie.proofs.steps.look.Goals as goal

pub load-last-requires : goal.load-last-requires
load-last-requires c = (c.requires.of.0, (let words = c.requires.of.1 in omega arith), may_look _ _ _ c.requires.settled)
