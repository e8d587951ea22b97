use Rattle.std.proofs.Common.{◌-◌, ◌∙◌, sym, ap, arith, rules, ◌&&◌, w64}
use Rattle.std.proofs.lemmas.Bool.{lt-ltb}
use Rattle.std.proofs.lemmas.Int.{to_z-of_z}
use Rattle.sa_view.specs.Views.{at_step, is_within}
use Rattle.sa_view.proofs.ViewLemmas.{fits-by_ends, step-on}
use Rattle.sa_view.proofs.view.View.fits.Goals as goal

pub returns-then-self-len : goal.returns-then-self-len
returns-then-self-len c =
    let v = c.args.self.now in
    let ends = fits-by_ends c.args.len v (step-on v.step c.if-self-eq0.false) (omega arith) in
    let same = to_z-of_z w64 c.at_step.result (search rules) in
    c.is_within.ensures ∙ (ap (is_within c.args.len) (same ∙ c.at_step.ensures) ∙ sym (ends ∙ ap (λ b. b && is_within c.args.len (at_step v (v.count - 1))) (lt-ltb v.start c.args.len c.if-self-len.true)))
