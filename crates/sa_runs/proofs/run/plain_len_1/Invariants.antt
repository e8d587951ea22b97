use Rattle.std.proofs.Common.{◌≡◌, ◌+◌, ◌-◌, ◌≤◌, length, drop}
use Rattle.std.specs.List.{prefix_len}
use Rattle.sa_runs.specs.Runs.{is_plain}
use Rattle.sa_runs.proofs.run.plain_len_1.Given as goal

abbrev pub invariant-bytes : goal.invariant-bytes
invariant-bytes l = record {
  same : prefix_len is_plain l.text ≡ l.ran + prefix_len is_plain (drop l.ran l.text);
  within : l.ran ≤ length l.text;
}

abbrev pub decreases-bytes : goal.decreases-bytes
decreases-bytes l = length l.text - l.ran
