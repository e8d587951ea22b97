use Rattle.std.proofs.Common.{nat_eq, ap, ◌∙◌, rules, tests}
use Rattle.std.specs.List.{list_any}
use Rattle.std.proofs.lemmas.Iterator.{YieldsList-from_chars}
use Rattle.std.proofs.lemmas.Iterator.Search.{any_from_yields_List}
use Rattle.sa_edit.proofs.strips.is_among.Goals as goal

pub returns : goal.returns
returns c =
    any_from_yields_List (nat_eq c.args.point) _ _ c.any.result c.any.ensures.ran
    (YieldsList-from_chars c.as_bytes.result.now c.as_bytes.ensures.utf8 (cc)) (λ x b q k. search (rules, tests))
    ∙ ap (list_any (nat_eq c.args.point)) c.as_bytes.ensures.points
