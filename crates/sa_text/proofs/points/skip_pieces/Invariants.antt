use Rattle.std.proofs.Common.{◌≡◌, ◌≤◌, ◌+◌, ◌-◌, length, take, count_by}
use Rattle.sa_text.specs.Points.{is_lead}
use Rattle.sa_text.proofs.points.skip_pieces.Given as goal

abbrev pub invariant-loop-at : goal.invariant-loop-at
invariant-loop-at l = record {
  within : l.at ≤ length l.bytes;
  so_far : l.left + count_by is_lead (take l.at l.bytes) ≡ l.k;
}

abbrev pub decreases-loop-at : goal.decreases-loop-at
decreases-loop-at l = length l.bytes - l.at
