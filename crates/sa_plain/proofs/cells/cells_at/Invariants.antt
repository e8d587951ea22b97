use Rattle.std.proofs.Common.{◌≡◌, take, map, get_or}
use Rattle.sa_plain.proofs.cells.cells_at.Given as goal

abbrev pub invariant-loop-place : goal.invariant-loop-place
invariant-loop-place g l = (d : g.row.T.Denot) → l.found.items ≡ map (λ k. get_or l.cells k d) (take l.place-index l.places)
