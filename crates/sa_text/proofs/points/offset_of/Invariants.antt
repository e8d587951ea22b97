use Rattle.std.proofs.Common.{◌≡◌, ◌+◌, take, count_by}
use Rattle.sa_text.specs.Points.{is_lead}
use Rattle.sa_text.proofs.points.offset_of.Given as goal

abbrev pub invariant-loop-at : goal.invariant-loop-at
invariant-loop-at l = l.left + count_by is_lead (take l.at l.bytes) ≡ l.k
