use Rattle.std.proofs.Common.{◌≡◌, take, count_by}
use Rattle.sa_text.specs.Points.{is_lead}
use Rattle.sa_text.proofs.points.count_leads.Given as goal

abbrev pub invariant-loop-byte : goal.invariant-loop-byte
invariant-loop-byte l = l.count ≡ count_by is_lead (take l.byte-index l.bytes)
