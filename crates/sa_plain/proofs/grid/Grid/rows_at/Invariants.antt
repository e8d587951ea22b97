use Rattle.std.proofs.Common.{◌≡◌, ◌≤◌, length, take, map, get_or, All, []}
use Rattle.sa_plain.proofs.grid.Grid.rows_at.Given as goal

abbrev pub invariant-loop-place : goal.invariant-loop-place
invariant-loop-place g l = (l.found ≡ map (λ k. get_or l.self.1 k []) (take l.place-index l.places)) × All (λ row. length row ≤ l.self.0) l.found
