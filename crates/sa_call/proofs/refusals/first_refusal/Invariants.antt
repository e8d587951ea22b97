use Rattle.std.proofs.Common.{◌≡◌, ◌≤◌, drop}
use Rattle.sa_plain.specs.Items.{items_of}
use Rattle.sa_call.specs.Refusals.{refused}
use Rattle.sa_call.proofs.refusals.first_refusal.Given as goal

-- the items that are left give what all give
abbrev pub invariant-loop-k : goal.invariant-loop-k
invariant-loop-k l = record {
  refused : refused l.forbidden l.weight l.k (drop l.k (items_of l.results)) ≡ refused l.fn.forbidden l.fn.weight 0 (items_of l.results);
  light : l.weight ≤ 1048576;
}
