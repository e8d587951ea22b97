use Rattle.std.proofs.Common.{rules, tests}
use Rattle.sa_text.specs.Spaces.{is_space}
use Rattle.sa_pred.proofs.predicates.is_space.Goals as goal

pub returns : goal.returns
returns c = c.is_each.ensures is_space (λ point answer after called. search (rules, tests))
