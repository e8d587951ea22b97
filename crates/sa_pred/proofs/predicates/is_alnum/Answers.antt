use Rattle.std.proofs.Common.{rules, tests}
use Rattle.sa_pred.specs.Classes.{is_letter_or_number}
use Rattle.sa_pred.proofs.predicates.is_alnum.Goals as goal

pub returns : goal.returns
returns c = c.is_each.ensures is_letter_or_number (λ point answer after called. search (rules, tests))
