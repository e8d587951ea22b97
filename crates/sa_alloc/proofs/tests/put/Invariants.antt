use Rattle.std.proofs.Common.{◌≡◌, ◌+◌, ◌<◌, ℕ, length, get_or}
use Rattle.sa_alloc.proofs.tests.put.Given as goal

abbrev pub invariant-loop-k : goal.invariant-loop-k
invariant-loop-k g l = record {
  count : length l.places.items ≡ l.k;
  placed : (j : ℕ) → j < l.k → get_or l.places.items j 0 ≡ l.first + j;
}
