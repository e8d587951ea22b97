use Rattle.std.proofs.Common.{◌≡◌, eqb, true, ◌||◌, List, Some, map, refl, sym, ap, ap₂, ◌∙◌, subst}
use Rattle.sa_plain.specs.Items.{count_of}
use Rattle.sa_view.specs.Views.{fits}
use Rattle.sa_view.specs.declared.view.View.{View}
use Rattle.sa_call.specs.declared.call.Op.TheVariants as op
use Rattle.sa_call.specs.declared.call.Operand.{Operand}
use Rattle.sa_call.specs.Kinds.{lists_fit}
use Rattle.sa_call.specs.Told.{view_counts}
use Rattle.sa_call.specs.Valid.{IsCall}
use Rattle.sa_call.proofs.ValidLemmas.{copy-valid, read-one}
use Rattle.sa_call.proofs.tests.copied.Goals as goal

pub evaluate-requires-clause-call : goal.evaluate-requires-clause-call
evaluate-requires-clause-call c =
    let d = c.in_ok-decls.decls in
    let v = c.front-view.result in
    let w = c.front-out.result in
    let from = ap (λ (x : View). x.array) c.front-view.ensures in
    let array = ap (λ (x : View). x.array) c.front-out.ensures in
    let count = ap (λ (x : View). x.count) c.front-out.ensures in
    let from_fits : fits 20 v ≡ true = cc in
    let fit : fits 20 w ≡ true = cc in
    let lengths : (eqb v.count 1 || eqb v.count w.count) ≡ true = cc in
    subst (λ (os : List Operand). IsCall d (record { op = op.Copy; operands = os; out = Some w })) (sym (c.from_vec.ensures ∙ c.in_ok-vec.ensures.items))
    (copy-valid d v w c.in_ok-decls.ensures.1 from from_fits array fit lengths)

pub evaluate-requires-clause-read : goal.evaluate-requires-clause-read
evaluate-requires-clause-read c =
    let d = c.in_ok-decls.decls in
    let v = c.front-view.result in
    let array = ap (λ (x : View). x.array) c.front-view.ensures in
    let count = sym c.len.ensures ∙ sym (ap (λ (x : View). x.count) c.front-view.ensures) in
    let os = c.from_vec.ensures ∙ c.in_ok-vec.ensures.items in
    let ls = c.from_vec-2.ensures ∙ c.in_ok-vec-2.ensures.items in
    let one = read-one d v c.args.items c.in_ok-decls.ensures.1 array count c.requires.values in
    (refl, ap (map count_of) ls ∙ one.0 ∙ ap view_counts (sym os), ap₂ (lists_fit d) os ls ∙ one.1)
