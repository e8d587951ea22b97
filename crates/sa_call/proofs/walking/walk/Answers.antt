use Rattle.std.proofs.Common.{◌≡◌, ◌-◌, ◌+◌, ℕ, suc, List, map, Some, Result, Ok, sym, ap, ◌∙◌, subst, arith}
use Rattle.std.specs.List.{range_with_len}
use Rattle.sa_base.specs.Items.{Item}
use Rattle.sa_plain.specs.Items.{items_of}
use Rattle.sa_call.specs.declared.reply.Refusal.{Refusal}
use Rattle.sa_call.specs.declared.walking.Halt.{Halt}
use Rattle.sa_call.specs.Elements.{Setting, cell_item, element_of, elements, gathered}
use Rattle.sa_call.specs.Decides.{results_as}
use Rattle.sa_call.specs.Forms.{entry}
use Rattle.sa_call.specs.declared.results.ResultList.{ResultList}
use Rattle.sa_call.specs.Walks.{HaltsResults, computed_items, joined, no_results}
use Rattle.sa_call.proofs.WalkLemmas.{joined-none, light-more, walk-end, walk-more, walk-stops}
use Rattle.sa_call.proofs.walking.walk.Goals as goal

pub loop-at-init : goal.loop-at-init
loop-at-init c =
    let set = c.args.setting.now in
    let s : Setting = record { miss = Some set.miss; blank = set.blank } in
    let columns : List (List Item) = map (λ b. items_of b.now) c.args.columns.now in
    let f : ℕ → Result Item Refusal = λ k. element_of s set.op (record { columns = columns; at = k; blank = set.blank }) in
    let whole : c.args.count - 0 ≡ c.args.count = omega arith in
    record {
      light = c.requires.light;
      goes = ap (λ (rs : ResultList). joined rs (gathered set.forbidden c.args.weight 0 (map f (range_with_len 0 (c.args.count - 0))))) (c.new-results.ensures ∙ ap no_results c.form.ensures.results)
          ∙ joined-none (entry set.op).results (gathered set.forbidden c.args.weight 0 (map f (range_with_len 0 (c.args.count - 0))))
          ∙ ap (λ n. results_as (computed_items (entry set.op).results) (gathered set.forbidden c.args.weight 0 (map f (range_with_len 0 n)))) whole;
    }

pub returns-in-Err : goal.returns-in-Err
returns-in-Err c =
    let set = c.args.setting.now in
    let s : Setting = record { miss = Some set.miss; blank = set.blank } in
    let columns : List (List Item) = map (λ b. items_of b.now) c.args.columns.now in
    let f : ℕ → Result Item Refusal = λ k. element_of s set.op (record { columns = columns; at = k; blank = set.blank }) in
    let l = c.loop-at in
    let all = results_as (computed_items (entry set.op).results) (gathered set.forbidden c.args.weight 0 (elements s set.op columns c.args.count)) in
    let below = c.loop-at-test.true in
    let left : c.args.count - l.at ≡ suc (c.args.count - (l.at + 1)) = omega arith in
    subst (λ (h : Halt). HaltsResults h all) (sym c.at.ensures)
    (walk-stops set.forbidden l.weight l.at (c.args.count - (l.at + 1)) f l.results c.in-Err.stop all c.in-Err.ensures
    (ap (λ n. joined l.results (gathered set.forbidden l.weight l.at (map f (range_with_len l.at n)))) (sym left) ∙ l.invariant.goes))

pub loop-at-preserved : goal.loop-at-preserved
loop-at-preserved c =
    let set = c.args.setting.now in
    let s : Setting = record { miss = Some set.miss; blank = set.blank } in
    let columns : List (List Item) = map (λ b. items_of b.now) c.args.columns.now in
    let f : ℕ → Result Item Refusal = λ k. element_of s set.op (record { columns = columns; at = k; blank = set.blank }) in
    let l = c.loop-at in
    let all = results_as (computed_items (entry set.op).results) (gathered set.forbidden c.args.weight 0 (elements s set.op columns c.args.count)) in
    let below = c.loop-at-test.true in
    let left : c.args.count - l.at ≡ suc (c.args.count - (l.at + 1)) = omega arith in
    let weighs = c.weight-weight.ensures.weight in
    let light = light-more set.forbidden l.weight (f l.at) (cell_item c.in-Ok.cell) c.in-Ok.ensures in
    record {
      light = omega arith;
      goes = ap (λ (n : ℕ). joined c.push.new.self (gathered set.forbidden (l.weight + n) (l.at + 1) (map f (range_with_len (l.at + 1) (c.args.count - (l.at + 1)))))) weighs
          ∙ walk-more set.forbidden l.weight l.at (c.args.count - (l.at + 1)) f l.results c.push.new.self (cell_item c.in-Ok.cell) all c.in-Ok.ensures c.in-Ok-push.ensures
          (ap (λ n. joined l.results (gathered set.forbidden l.weight l.at (map f (range_with_len l.at n)))) (sym left) ∙ l.invariant.goes);
    }

pub returns : goal.returns
returns c =
    let set = c.args.setting.now in
    let s : Setting = record { miss = Some set.miss; blank = set.blank } in
    let columns : List (List Item) = map (λ b. items_of b.now) c.args.columns.now in
    let f : ℕ → Result Item Refusal = λ k. element_of s set.op (record { columns = columns; at = k; blank = set.blank }) in
    let l = c.loop-at in
    let all = results_as (computed_items (entry set.op).results) (gathered set.forbidden c.args.weight 0 (elements s set.op columns c.args.count)) in
    let past = c.loop-at-test.false in
    walk-end set.forbidden l.weight l.at (c.args.count - l.at) f l.results all (omega arith) l.invariant.goes ∙ ap (λ x. Ok x) (sym c.into_items.ensures)
