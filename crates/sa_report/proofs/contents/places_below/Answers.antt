use Rattle.std.proofs.Common.{◌∷◌, [], ◌++◌, ap, sym, ◌∙◌, arith}
use Rattle.sa_report.proofs.ContentLemmas.{range-more}
use Rattle.sa_report.proofs.contents.places_below.Goals as goal

pub loop-place-preserved : goal.loop-place-preserved
loop-place-preserved c =
    let k = c.loop-place.place in
    c.in_ok-push.ensures.items ∙ (ap (λ ks. ks ++ k ∷ []) c.loop-place.invariant ∙ sym (range-more 0 k k (omega arith)))
