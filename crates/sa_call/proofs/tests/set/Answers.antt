use Rattle.std.proofs.Common.{◌≡◌, eqb, true, ◌||◌, List, Some, sym, ap, ◌∙◌, subst, arith}
use Rattle.sa_plain.specs.Items.{count_of}
use Rattle.sa_view.specs.Views.{fits}
use Rattle.sa_view.specs.declared.view.View.{View}
use Rattle.sa_call.specs.declared.call.Op.TheVariants as op
use Rattle.sa_call.specs.declared.call.Operand.{Operand}
use Rattle.sa_call.specs.Valid.{IsCall}
use Rattle.sa_call.proofs.ValidLemmas.{set-valid}
use Rattle.sa_call.proofs.tests.set.Goals as goal

pub evaluate-requires-clause-call : goal.evaluate-requires-clause-call
evaluate-requires-clause-call c =
    let d = c.in_ok-decls.decls in
    let v = c.front-out.result in
    let same = c.front-out.ensures in
    let array = ap (λ (w : View). w.array) same in
    let count = ap (λ (w : View). w.count) same in
    let fit : fits 20 v ≡ true = cc in
    let length = c.len-count.ensures in
    let lengths : (eqb (count_of c.args.items) 1 || eqb (count_of c.args.items) v.count) ≡ true = cc in
    subst (λ (os : List Operand). IsCall d (record { op = op.Set; operands = os; out = Some v })) (sym (c.from_vec.ensures ∙ c.in_ok-vec.ensures.items))
    (set-valid d c.args.items v c.in_ok-decls.ensures.1 array fit (omega arith) (omega arith) c.requires.texts c.requires.values lengths)
