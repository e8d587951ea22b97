use Rattle.std.proofs.Common.{◌≡◌, ◌*◌, ap, ap₂, ◌∙◌, arith}
use Rattle.std.proofs.lemmas.Int.{to_z-of_z}
use Rattle.std.proofs.lemmas.Result.{err_from_is_err_and}
use Rattle.sa_text.specs.Texts.{text_size}
use Rattle.sa_edit.proofs.FillLemmas.{text_size-repeat}
use Rattle.sa_edit.specs.Joins.{at_least_zero, multiply}
use Rattle.sa_edit.proofs.joins.multiply.Goals as goal

pub returns-in_err-text : goal.returns-in_err-text
returns-in_err-text c =
    let p = err_from_is_err_and c.from_residual.result c.from_residual.ensures.1 in
    let size : text_size (multiply c.args.a.now c.args.n) ≡ at_least_zero c.args.n * text_size c.args.a.now = text_size-repeat (at_least_zero c.args.n) c.args.a.now in
    let times : c.at_least_zero-times.result ≡ at_least_zero c.args.n = c.at_least_zero-times.ensures ∙ ap at_least_zero (to_z-of_z _ _ c.ranges.n) in
    let product : c.at_least_zero-times.result * c.size.result ≡ at_least_zero c.args.n * text_size c.args.a.now = ap₂ ◌*◌ times c.size.ensures.size in
    rw (p.1, p.2) (c.in_err-text.ensures.refused (multiply c.args.a.now c.args.n) (omega (arith, c.saturating_mul.ensures)))
