use Rattle.std.proofs.Common.{arith}
use Rattle.std.proofs.lemmas.Result.{err_from_is_err_and}
use Rattle.sa_text.proofs.PointLemmas.{text_size-append}
use Rattle.sa_edit.specs.Joins.{add}
use Rattle.sa_edit.proofs.joins.add.Goals as goal

pub returns-in_err-text : goal.returns-in_err-text
returns-in_err-text c =
    let p = err_from_is_err_and c.from_residual.result c.from_residual.ensures.1 in
    let size = text_size-append c.args.a.now c.args.b.now in
    rw (p.1, p.2) (c.in_err-text.ensures.refused (add c.args.a.now c.args.b.now) (omega arith))
