use Rattle.std.proofs.Common.{◌≡◌, ◌++◌, map, drop}
use Rattle.sa_plain.specs.Items.{count_of}
use Rattle.sa_call.specs.Columns.{columns_read}
use Rattle.sa_call.specs.Told.{view_counts}
use Rattle.sa_call.proofs.columns.columns.Given as goal

-- the columns so far and those of what is left are all, and the lists that are left are for the views that are left
abbrev pub invariant-loop-operand : goal.invariant-loop-operand
invariant-loop-operand l = record {
  columns : map (λ c. c.now) l.columns.items ++ columns_read (drop l.operand-index l.operands) (drop l.next l.lists) ≡ columns_read l.operands l.lists;
  counts : map count_of (drop l.next l.lists) ≡ view_counts (drop l.operand-index l.operands);
}
