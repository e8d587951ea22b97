use Rattle.std.proofs.Common.{codes, sym, subst, ◌∙◌}
use Rattle.std.specs.List.{AllByRecursion}
use Rattle.sa_text.specs.Values.{IsTextValue}
use Rattle.sa_text.proofs.TextLemmas.{text_of-text}
use Rattle.sa_call.proofs.tests.missing_behind.Goals as goal

pub returns-clause-texts : goal.returns-clause-texts
returns-clause-texts c =
    let text = text_of-text (codes "ab") c.in_ok-text.text c.in_ok-text.ensures in
    subst (AllByRecursion IsTextValue) (sym (c.from_vec.ensures ∙ c.in_ok-values.ensures.items)) (text, (tt, (tt, tt)))
