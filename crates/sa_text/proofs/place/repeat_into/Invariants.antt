use Rattle.std.proofs.Common.{◌≡◌, ◌≤◌, ◌<◌, ◌-◌, ◌++◌, replicate, vec_capacity}
use Rattle.std.specs.List.{concat}
use Rattle.sa_text.proofs.place.repeat_into.Given as goal

abbrev pub invariant-loop-done : goal.invariant-loop-done
invariant-loop-done l = record {
  some : 0 < l.done;
  within : l.done ≤ l.times;
  items : l.bytes.items ≡ l.fn.bytes.items ++ concat (replicate l.done l.part);
  capacity : vec_capacity l.fn.bytes ≤ vec_capacity l.bytes;
}

abbrev pub decreases-loop-done : goal.decreases-loop-done
decreases-loop-done l = l.times - l.done
