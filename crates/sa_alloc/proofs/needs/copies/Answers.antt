-- One copy more.
use Rattle.std.proofs.Common.{◌<◌, ◌∷◌, [], ◌++◌, length, ap, ◌∙◌, sym, take, get_or, add-one, arith}
use Rattle.std.specs.List.{zip}
use Rattle.sa_text.specs.Values.{stretched}
use Rattle.sa_text.specs.declared.value.Value.{Value}
use Rattle.sa_text.specs.declared.value.Value.TheVariants.{Missing}
use Rattle.sa_alloc.proofs.PlanLemmas.{zip-more}
use Rattle.sa_alloc.proofs.needs.copies.Goals as goal

pub loop-k-preserved : goal.loop-k-preserved
loop-k-preserved c =
    let places = c.args.places.now in
    let values = stretched (length places) c.args.values.now in
    let k = c.loop-k.k in
    let count = c.requires in
    let below : k < length places = omega arith in
    let within : k < length values = omega arith in
    rw add-one (c.in_ok-push.ensures.items
    ∙ ap (λ ps. ps ++ (get_or places k 0, c.in_ok-copy.field-0) ∷ []) c.loop-k.invariant
    ∙ ap (λ (v : Value). zip (take k places) (take k values) ++ (get_or places k 0, v) ∷ []) (c.in_ok-copy.ensures ∙ c.stretched_at.ensures)
    ∙ sym (zip-more places values k Missing below within))
