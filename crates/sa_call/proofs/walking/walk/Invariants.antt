use Rattle.std.proofs.Common.{◌≡◌, ◌≤◌, ◌-◌, map, Some}
use Rattle.std.specs.List.{range_with_len}
use Rattle.sa_plain.specs.Items.{items_of}
use Rattle.sa_call.specs.Elements.{element_of, elements, gathered}
use Rattle.sa_call.specs.Decides.{results_as}
use Rattle.sa_call.specs.Forms.{entry}
use Rattle.sa_call.specs.Walks.{computed_items, joined}
use Rattle.sa_call.proofs.walking.walk.Given as goal

-- the results so far, and what is gathered of the elements that are left
abbrev pub invariant-loop-at : goal.invariant-loop-at
invariant-loop-at l = record {
  light : l.weight ≤ 1048576;
  goes : joined l.results (gathered l.setting.forbidden l.weight l.at (map (λ k. element_of (record { miss = Some l.setting.miss; blank = l.setting.blank }) l.setting.op (record { columns = map (λ c. items_of c.now) l.columns; at = k; blank = l.setting.blank })) (range_with_len l.at (l.count - l.at))))
      ≡ results_as (computed_items (entry l.setting.op).results) (gathered l.setting.forbidden l.fn.weight 0 (elements (record { miss = Some l.setting.miss; blank = l.setting.blank }) l.setting.op (map (λ c. items_of c.now) l.columns) l.count));
}
