use Rattle.std.proofs.Common.{rules, tests}
use Rattle.sa_pred.specs.Classes.{is_decimal_number}
use Rattle.sa_pred.proofs.predicates.is_decimal.Goals as goal

pub returns : goal.returns
returns c = c.is_each.ensures is_decimal_number (λ point answer after called. search (rules, tests))
