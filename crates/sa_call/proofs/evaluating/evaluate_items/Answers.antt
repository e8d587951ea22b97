-- The columns that are lent are those that were read.
use Rattle.std.proofs.Common.{◌≡◌, ◌≤◌, true, is_some, List, length, map, IfOk, sym, ap, ◌∙◌, subst, arith, Bor}
use Rattle.std.proofs.lemmas.List.{length-map}
use Rattle.std.proofs.lemmas.List.Elements.{All-from_recursion}
use Rattle.std.proofs.lemmas.Result.{MatchResult-weaker}
use Rattle.sa_plain.specs.Items.{count_of, items_of}
use Rattle.sa_plain.specs.declared.items.Items.{Items}
use Rattle.sa_call.specs.declared.call.Operand.{Operand}
use Rattle.sa_call.specs.declared.reply.Outcome.{Outcome}
use Rattle.sa_call.specs.Calls.{operand_count}
use Rattle.sa_call.specs.Columns.{columns_read, AreColumns}
use Rattle.sa_call.proofs.ColumnLemmas.{columns-are, columns-few, lent-counts, outcome-lent}
use Rattle.sa_call.proofs.CountLemmas.{operands-few}
use Rattle.sa_call.specs.Forms.{entry}
use Rattle.sa_call.specs.Kinds.{output_fits}
use Rattle.sa_call.proofs.KindLemmas.{made-fits, outcome-computed}
use Rattle.sa_call.proofs.OpLemmas.{computes, few-operands, moves, on-items}
use Rattle.sa_call.proofs.evaluating.evaluate_items.Goals as goal

pub columns_weight-weight-requires-clause-few : goal.columns_weight-weight-requires-clause-few
columns_weight-weight-requires-clause-few c =
    let call = c.args.call.now in
    let all = c.in_ok-columns.ensures ∙ ap (λ (os : List Operand). columns_read os c.args.lists.now) c.as_slice.ensures in
    let lent : List (Bor Items) = c.as_slice-columns.result.now in
    let read : map (λ (r : Bor Items). r.now) lent ≡ columns_read call.operands c.args.lists.now = ap (map (λ (r : Bor Items). r.now)) c.as_slice-columns.ensures.value ∙ all in
    let few = few-operands call.op call.operands (on-items call.op c.requires.items) c.requires.call.sorts in
    let left = length-map lent (λ (r : Bor Items). count_of r.now) in
    let right = length-map call.operands operand_count in
    let same = ap length (lent-counts (λ (r : Bor Items). r.now) lent call.operands c.args.lists.now read c.requires.lists) in
    omega arith

pub columns_weight-weight-requires-clause-short : goal.columns_weight-weight-requires-clause-short
columns_weight-weight-requires-clause-short c =
    let call = c.args.call.now in
    let all = c.in_ok-columns.ensures ∙ ap (λ (os : List Operand). columns_read os c.args.lists.now) c.as_slice.ensures in
    let lent : List (Bor Items) = c.as_slice-columns.result.now in
    let read : map (λ (r : Bor Items). r.now) lent ≡ columns_read call.operands c.args.lists.now = ap (map (λ (r : Bor Items). r.now)) c.as_slice-columns.ensures.value ∙ all in
    let few = operands-few c.args.decls.now call.operands c.requires.declared c.requires.call.views c.requires.call.literals in
    All-from_recursion (λ (r : Bor Items). count_of r.now ≤ 8192) lent (columns-few (λ (r : Bor Items). r.now) lent call.operands c.args.lists.now read c.requires.lists few)

pub moved-requires-clause-moves : goal.moved-requires-clause-moves
moved-requires-clause-moves c = moves c.args.call.now.op (on-items c.args.call.now.op c.requires.items) (sym c.form.ensures.group ∙ c.in-None.is)

pub moved-requires-clause-counts : goal.moved-requires-clause-counts
moved-requires-clause-counts c =
    let call = c.args.call.now in
    let all = c.in_ok-columns.ensures ∙ ap (λ (os : List Operand). columns_read os c.args.lists.now) c.as_slice.ensures in
    let lent : List (Bor Items) = c.as_slice-columns.result.now in
    let read : map (λ (r : Bor Items). r.now) lent ≡ columns_read call.operands c.args.lists.now = ap (map (λ (r : Bor Items). r.now)) c.as_slice-columns.ensures.value ∙ all in
    lent-counts (λ (r : Bor Items). r.now) lent call.operands c.args.lists.now read c.requires.lists

pub moved-requires-clause-columns : goal.moved-requires-clause-columns
moved-requires-clause-columns c =
    let call = c.args.call.now in
    let all = c.in_ok-columns.ensures ∙ ap (λ (os : List Operand). columns_read os c.args.lists.now) c.as_slice.ensures in
    let lent : List (Bor Items) = c.as_slice-columns.result.now in
    let read : map (λ (r : Bor Items). r.now) lent ≡ columns_read call.operands c.args.lists.now = ap (map (λ (r : Bor Items). r.now)) c.as_slice-columns.ensures.value ∙ all in
    subst (λ (cs : List Items). AreColumns c.args.decls.now call.operands cs) (sym read) (columns-are c.args.decls.now call.operands c.args.lists.now c.requires.lists c.requires.fit)

pub returns-in-None-clause-outcome : goal.returns-in-None-clause-outcome
returns-in-None-clause-outcome c =
    let call = c.args.call.now in
    let all = c.in_ok-columns.ensures ∙ ap (λ (os : List Operand). columns_read os c.args.lists.now) c.as_slice.ensures in
    let lent : List (Bor Items) = c.as_slice-columns.result.now in
    let read : map (λ (r : Bor Items). r.now) lent ≡ columns_read call.operands c.args.lists.now = ap (map (λ (r : Bor Items). r.now)) c.as_slice-columns.ensures.value ∙ all in
    subst (λ (x : Outcome). IfOk c.moved.result (λ o. o ≡ x)) (outcome-lent c.args.decls.now call (λ (r : Bor Items). r.now) lent c.args.lists.now c.columns_weight-weight.result read c.columns_weight-weight.ensures (omega arith)) c.moved.ensures.outcome

pub returns-clause-outcome : goal.returns-clause-outcome
returns-clause-outcome c =
    let call = c.args.call.now in
    let all = c.in_ok-columns.ensures ∙ ap (λ (os : List Operand). columns_read os c.args.lists.now) c.as_slice.ensures in
    let lent : List (Bor Items) = c.as_slice-columns.result.now in
    let read : map (λ (r : Bor Items). r.now) lent ≡ columns_read call.operands c.args.lists.now = ap (map (λ (r : Bor Items). r.now)) c.as_slice-columns.ensures.value ∙ all in
    let group : is_some (entry call.op).group ≡ true = ap is_some (sym c.form.ensures.group ∙ c.in-Some.is) in
    let same = sym (outcome-computed c.args.decls.now call c.columns_weight-weight.result (map (λ (r : Bor Items). items_of r.now) lent) (computes call.op group).results)
    ∙ outcome-lent c.args.decls.now call (λ (r : Bor Items). r.now) lent c.args.lists.now c.columns_weight-weight.result read c.columns_weight-weight.ensures (omega arith) in
    subst (λ (x : Outcome). IfOk c.made.result (λ o. o ≡ x)) same c.made.ensures

pub returns-clause-fits : goal.returns-clause-fits
returns-clause-fits c =
    let call = c.args.call.now in
    let lent : List (Bor Items) = c.as_slice-columns.result.now in
    let group : is_some (entry call.op).group ≡ true = ap is_some (sym c.form.ensures.group ∙ c.in-Some.is) in
    let fit = made-fits c.args.decls.now call c.columns_weight-weight.result (map (λ (r : Bor Items). items_of r.now) lent) (computes call.op group).results c.requires.call.results in
    MatchResult-weaker c.made.result c.made.ensures (λ o e. ap (λ (x : Outcome). output_fits c.args.decls.now call.out x.results) e ∙ fit) (λ m t. t)
