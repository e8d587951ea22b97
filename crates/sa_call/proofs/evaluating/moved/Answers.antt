-- The items of the one column are moved.
use Rattle.std.proofs.Common.{◌≡◌, ◌≤◌, ℕ, List, Some, None, sym, ap, ◌∙◌, map, Bor}
use Rattle.std.proofs.lemmas.List.Elements.{All-from_recursion}
use Rattle.std.proofs.lemmas.Simd.{map-map}
use Rattle.sa_base.specs.Items.{Item}
use Rattle.sa_plain.specs.Items.{count_of, items_of}
use Rattle.sa_plain.specs.Spreads.{spread, widened}
use Rattle.sa_plain.specs.declared.items.Items.{Items}
use Rattle.sa_call.specs.declared.call.Operand.{Operand}
use Rattle.sa_call.specs.declared.form.Results.{Results}
use Rattle.sa_call.specs.declared.reply.Outcome.{Outcome}
use Rattle.sa_call.specs.declared.reply.Refusal.{Refusal}
use Rattle.sa_call.specs.Calls.{elements_in, operand_count}
use Rattle.sa_call.specs.Decides.{outcome_on}
use Rattle.sa_call.specs.Kinds.{first_items, output_fits, output_width}
use Rattle.sa_call.specs.Valid.{results_fit}
use Rattle.sa_call.proofs.ColumnLemmas.{one-column}
use Rattle.sa_call.proofs.CountLemmas.{call-few, operands-few}
use Rattle.sa_call.proofs.KindLemmas.{column-kind, held-few, moved-fits}
use Rattle.sa_call.proofs.MoveLemmas.{outcome-moved}
use Rattle.sa_call.proofs.OpLemmas.{one-operand}
use Rattle.sa_call.proofs.evaluating.moved.Goals as goal

pub elements_in-requires-clause-short : goal.elements_in-requires-clause-short
elements_in-requires-clause-short c =
    let r = c.requires in
    All-from_recursion (λ o. operand_count o ≤ 8192) c.args.call.now.operands (operands-few c.args.decls.now c.args.call.now.operands r.declared r.call.views r.call.literals)

pub results_refusal-requires-clause-few : goal.results_refusal-requires-clause-few
results_refusal-requires-clause-few c =
    let d = c.args.decls.now in
    let call = c.args.call.now in
    let r = c.requires in
    let one = one-operand call.op call.operands r.moves r.call.sorts in
    let items : Items = c.in-Some.items.now.now in
    let column = one-column d call (λ (b : Bor Items). b.now) c.args.columns.now c.in-Some.items.now r.counts one (sym c.in-Some.ensures.value) r.columns in
    let held : c.in_ok-results.results ≡ widened (output_width d call.out) (spread (elements_in call) items) = cc (c.in_ok-results.ensures, c.in_ok-stretched.ensures, c.in_ok-count.ensures, c.output_width-width.ensures.width) in
    let few = call-few d call (count_of items) r.declared r.call column.count in
    rw held (held-few (output_width d call.out) (elements_in call) items few.1 few.0)

pub returns-in-Some-results_refusal-clause-outcome : goal.returns-in-Some-results_refusal-clause-outcome
returns-in-Some-results_refusal-clause-outcome c =
    let d = c.args.decls.now in
    let call = c.args.call.now in
    let r = c.requires in
    let one = one-operand call.op call.operands r.moves r.call.sorts in
    let items : Items = c.in-Some.items.now.now in
    let column = one-column d call (λ (b : Bor Items). b.now) c.args.columns.now c.in-Some.items.now r.counts one (sym c.in-Some.ensures.value) r.columns in
    let held : c.in_ok-results.results ≡ widened (output_width d call.out) (spread (elements_in call) items) = cc (c.in_ok-results.ensures, c.in_ok-stretched.ensures, c.in_ok-count.ensures, c.output_width-width.ensures.width) in
    let first = ap (first_items d) column.operands ∙ column-kind d column.operand items column.is in
    let only = sym (map-map items_of (λ (b : Bor Items). b.now) c.args.columns.now) ∙ column.only in
    let at : Refusal × ℕ = (c.in-Some-results_refusal.cause, c.in-Some-results_refusal.at) in
    c.refused.ensures
    ∙ outcome-moved d call c.args.weight items c.in_ok-results.results (Some at) r.moves r.call.lengths column.count first held (cc (c.in-Some-results_refusal.is, c.results_refusal.ensures, c.forbids-forbidden.ensures))
    ∙ ap (λ (cs : List (List Item)). outcome_on d call c.args.weight cs) (sym only)

pub returns-in-None-clause-outcome : goal.returns-in-None-clause-outcome
returns-in-None-clause-outcome c =
    let d = c.args.decls.now in
    let call = c.args.call.now in
    let r = c.requires in
    let one = one-operand call.op call.operands r.moves r.call.sorts in
    let items : Items = c.in-Some.items.now.now in
    let column = one-column d call (λ (b : Bor Items). b.now) c.args.columns.now c.in-Some.items.now r.counts one (sym c.in-Some.ensures.value) r.columns in
    let held : c.in_ok-results.results ≡ widened (output_width d call.out) (spread (elements_in call) items) = cc (c.in_ok-results.ensures, c.in_ok-stretched.ensures, c.in_ok-count.ensures, c.output_width-width.ensures.width) in
    let first = ap (first_items d) column.operands ∙ column-kind d column.operand items column.is in
    let only = sym (map-map items_of (λ (b : Bor Items). b.now) c.args.columns.now) ∙ column.only in
    c.given.ensures
    ∙ outcome-moved d call c.args.weight items c.in_ok-results.results None r.moves r.call.lengths column.count first held (cc (c.in-None.is, c.results_refusal.ensures, c.forbids-forbidden.ensures))
    ∙ ap (λ (cs : List (List Item)). outcome_on d call c.args.weight cs) (sym only)

pub returns-in-None-clause-fits : goal.returns-in-None-clause-fits
returns-in-None-clause-fits c =
    let d = c.args.decls.now in
    let call = c.args.call.now in
    let r = c.requires in
    let one = one-operand call.op call.operands r.moves r.call.sorts in
    let items : Items = c.in-Some.items.now.now in
    let column = one-column d call (λ (b : Bor Items). b.now) c.args.columns.now c.in-Some.items.now r.counts one (sym c.in-Some.ensures.value) r.columns in
    let held : c.in_ok-results.results ≡ widened (output_width d call.out) (spread (elements_in call) items) = cc (c.in_ok-results.ensures, c.in_ok-stretched.ensures, c.in_ok-count.ensures, c.output_width-width.ensures.width) in
    let fit = ap (λ (k : Results). results_fit d k call.operands call.out) (sym r.moves.results) ∙ r.call.results in
    ap (λ (o : Outcome). output_fits d call.out o.results) c.given.ensures
    ∙ moved-fits d call.operands call.out column.operand items c.in_ok-results.results (elements_in call) column.operands fit column.is held
