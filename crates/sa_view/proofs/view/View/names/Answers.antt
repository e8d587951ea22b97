use Rattle.std.proofs.Common.{◌∙◌, sym, ap, rules, pos, w32}
use Rattle.std.specs.Prelude.{unsigned_abs}
use Rattle.std.proofs.lemmas.Int.{to_z-of_z}
use Rattle.std.specs.Prelude.{int_lt}
use Rattle.sa_view.specs.Views.{greatest_length}
use Rattle.sa_view.proofs.ViewLemmas.{names-back, names-forth}
use Rattle.sa_view.proofs.view.View.names.Goals as goal

pub returns-then-self-gt0 : goal.returns-then-self-gt0
returns-then-self-gt0 c =
    let v = c.args.self.now in
    let same = to_z-of_z w32 v.step (search rules) in
    c.reaches.ensures ∙ sym (names-forth v c.args.place c.unsigned_abs-stride.result (c.unsigned_abs-stride.ensures.value ∙ ap unsigned_abs same) (ap (int_lt (pos 0)) (sym same) ∙ c.if-self-gt0.true))

pub returns-else-self-gt0 : goal.returns-else-self-gt0
returns-else-self-gt0 c =
    let v = c.args.self.now in
    let same = to_z-of_z w32 v.step (search rules) in
    c.reaches-else-self-gt0.ensures ∙ sym (names-back greatest_length v c.args.place c.unsigned_abs-stride.result c.requires (c.unsigned_abs-stride.ensures.value ∙ ap unsigned_abs same) (ap (int_lt (pos 0)) (sym same) ∙ c.if-self-gt0.false))
