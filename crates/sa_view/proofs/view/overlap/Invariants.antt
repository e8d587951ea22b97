use Rattle.std.proofs.Common.{◌≡◌, ℕ, ◌<◌, false}
use Rattle.sa_view.specs.Views.{names, place_at}
use Rattle.sa_view.proofs.view.overlap.Given as goal

abbrev pub invariant-loop-k : goal.invariant-loop-k
invariant-loop-k l = (j : ℕ) → j < l.k → names l.b (place_at l.a j) ≡ false
