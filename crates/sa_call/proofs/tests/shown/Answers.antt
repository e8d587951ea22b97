use Rattle.std.proofs.Common.{◌≡◌, true, List, None, map, refl, sym, ap, ap₂, ◌∙◌, subst}
use Rattle.sa_plain.specs.Items.{count_of}
use Rattle.sa_view.specs.Views.{fits}
use Rattle.sa_view.specs.declared.view.View.{View}
use Rattle.sa_call.specs.declared.call.Op.TheVariants as op
use Rattle.sa_call.specs.declared.call.Operand.{Operand}
use Rattle.sa_call.specs.Kinds.{lists_fit}
use Rattle.sa_call.specs.Told.{view_counts}
use Rattle.sa_call.specs.Valid.{IsCall}
use Rattle.sa_call.proofs.ValidLemmas.{read-one, show-valid}
use Rattle.sa_call.proofs.tests.shown.Goals as goal

pub evaluate-requires-clause-call : goal.evaluate-requires-clause-call
evaluate-requires-clause-call c =
    let d = c.in_ok-decls.decls in
    let v = c.front-view.result in
    let array = ap (λ (x : View). x.array) c.front-view.ensures in
    let fit : fits 20 v ≡ true = cc in
    subst (λ (os : List Operand). IsCall d (record { op = op.Show; operands = os; out = None })) (sym (c.from_vec.ensures ∙ c.in_ok-vec.ensures.items))
    (show-valid d v c.in_ok-decls.ensures.1 array fit)

pub evaluate-requires-clause-read : goal.evaluate-requires-clause-read
evaluate-requires-clause-read c =
    let d = c.in_ok-decls.decls in
    let v = c.front-view.result in
    let array = ap (λ (x : View). x.array) c.front-view.ensures in
    let count = sym c.len.ensures ∙ sym (ap (λ (x : View). x.count) c.front-view.ensures) in
    let os = c.from_vec.ensures ∙ c.in_ok-vec.ensures.items in
    let ls = c.from_vec-2.ensures ∙ c.in_ok-vec-2.ensures.items in
    let one = read-one d v c.args.items c.in_ok-decls.ensures.1 array count c.requires.values in
    (refl, ap (map count_of) ls ∙ one.0 ∙ ap view_counts (sym os), ap₂ (lists_fit d) os ls ∙ one.1)
