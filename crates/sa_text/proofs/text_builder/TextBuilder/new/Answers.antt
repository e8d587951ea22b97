use Rattle.std.proofs.Common.{◌∙◌, ap, length, arith}
use Rattle.std.specs.Str.{chars}
use Rattle.std.proofs.lemmas.Str.{chars-nil}
use Rattle.sa_text.proofs.MakingLemmas.{same-draft}
use Rattle.sa_text.proofs.text_builder.TextBuilder.new.Goals as goal

pub returns-in-Ok-clause-begun : goal.returns-in-Ok-clause-begun
returns-in-Ok-clause-begun c =
    let none = c.in-Ok.ensures.0 in
    let size = ap length none in
    (same-draft _ _ _ _ (ap chars none ∙ chars-nil) (omega arith), omega arith)
