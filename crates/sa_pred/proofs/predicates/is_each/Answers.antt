use Rattle.std.proofs.Common.{ap, ◌∙◌, arith}
use Rattle.std.specs.List.{list_all}
use Rattle.std.proofs.lemmas.Iterator.{YieldsList-from_chars}
use Rattle.std.proofs.lemmas.Iterator.Search.{all_from_yields_List}
use Rattle.sa_pred.proofs.ClassLemmas.{all-some, all-none}
use Rattle.sa_pred.proofs.predicates.is_each.Goals as goal

pub returns-then-size-eq0 : goal.returns-then-size-eq0
returns-then-size-eq0 g c = λ test computes. all-none test c.args.a.now (omega (arith, c.size.ensures.size))

pub returns : goal.returns
returns g c = λ test computes.
    all_from_yields_List test _ _ c.all.result c.all.ensures.ran (YieldsList-from_chars c.as_bytes.result.now c.as_bytes.ensures.utf8 cc) computes
    ∙ ap (list_all test) c.as_bytes.ensures.points
    ∙ all-some test c.args.a.now (omega (arith, c.size.ensures.size))
