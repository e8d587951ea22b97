use Rattle.std.proofs.Common.{rules, tests}
use Rattle.sa_pred.specs.Classes.{is_letter}
use Rattle.sa_pred.proofs.predicates.is_alpha.Goals as goal

pub returns : goal.returns
returns c = c.is_each.ensures is_letter (λ point answer after called. search (rules, tests))
