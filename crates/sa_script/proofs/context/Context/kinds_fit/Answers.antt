use Rattle.std.proofs.Common.{◌≡◌, Some, None, sym, ◌∙◌}
use Rattle.sa_call.specs.Forms.{entry}
use Rattle.sa_script.specs.Contexts.{declared_in}
use Rattle.sa_script.specs.Kinds.{kinds_read}
use Rattle.sa_script.proofs.KindLemmas.{kinds-none, kinds-told, read-left}
use Rattle.sa_script.proofs.context.Context.kinds_fit.Goals as goal

pub returns-in-Some-kinds_read : goal.returns-in-Some-kinds_read
returns-in-Some-kinds_read c =
    let d = declared_in c.args.self.now in
    let o = c.args.op in
    let left = c.in-Some-kinds_read.left.now in
    let first : Some c.in-Some.rest.now ≡ kinds_read d (entry o).needs c.args.operands.now = rw (c.in-Some.is, c.form-form.ensures.needs) at c.kinds_read.ensures in
    let then : Some left ≡ kinds_read d (entry o).may c.in-Some.rest.now = rw (c.in-Some-kinds_read.is, c.form-form.ensures.may) at c.kinds_read-2.ensures in
    c.is_empty.ensures ∙ sym (read-left left) ∙ kinds-told d o c.args.operands.now c.in-Some.rest.now (Some left) first then

pub returns-in-None : goal.returns-in-None
returns-in-None c =
    let d = declared_in c.args.self.now in
    let o = c.args.op in
    let first : Some c.in-Some.rest.now ≡ kinds_read d (entry o).needs c.args.operands.now = rw (c.in-Some.is, c.form-form.ensures.needs) at c.kinds_read.ensures in
    let then : None ≡ kinds_read d (entry o).may c.in-Some.rest.now = rw (c.in-None.is, c.form-form.ensures.may) at c.kinds_read-2.ensures in
    kinds-told d o c.args.operands.now c.in-Some.rest.now None first then

pub returns-in_default : goal.returns-in_default
returns-in_default c =
    let d = declared_in c.args.self.now in
    let o = c.args.op in
    let none : None ≡ kinds_read d (entry o).needs c.args.operands.now = rw (c.in_default.is, c.form-form.ensures.needs) at c.kinds_read.ensures in
    kinds-none d o c.args.operands.now none
