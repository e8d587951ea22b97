use Rattle.std.proofs.Common.{◌≡◌, ◌+◌, length}
use Rattle.std.specs.List.{prefix_len}
use Rattle.sa_runs.specs.Runs.{is_plain}
use Rattle.sa_runs.proofs.run.plain_len.Given as goal

abbrev pub invariant-vectors : goal.invariant-vectors
invariant-vectors l = record {
  same : prefix_len is_plain l.text ≡ l.ran + prefix_len is_plain l.rest;
  count : l.ran + length l.rest ≡ length l.text;
}

abbrev pub decreases-vectors : goal.decreases-vectors
decreases-vectors l = length l.rest
