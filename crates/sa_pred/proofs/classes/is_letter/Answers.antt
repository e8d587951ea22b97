use Rattle.std.proofs.Common.{sym, ◌∙◌}
use Rattle.std.proofs.lemmas.Bool.{ltb-true}
use Rattle.sa_pred.proofs.ClassLemmas.{letter-ascii}
use Rattle.sa_pred.proofs.classes.is_letter.Goals as goal

pub returns-then-is_ascii : goal.returns-then-is_ascii
returns-then-is_ascii c = c.is_ascii_alphabetic.ensures.value ∙ letter-ascii c.args.point (ltb-true c.args.point 128 (sym c.is_ascii.ensures ∙ c.if-is_ascii.true))
