use Rattle.std.proofs.Common.{◌≡◌, ◌≤◌, ◌<◌, ◌&&◌, nat_lt, ℕ, All, length}
use Rattle.sa_journal.specs.Parties.{among}
use Rattle.sa_hall.proofs.LeastLemmas.{count_below}
use Rattle.sa_hall.proofs.locking.plan_locks.Given as goal

abbrev pub invariant-loop : goal.invariant-loop
invariant-loop l = record {
  few : length l.locks ≤ l.counter;
  below : All (λ n. n < l.bound) l.locks;
  same : (d : ℕ) → among d l.locks ≡ (among d l.numbers && nat_lt d l.bound);
  done : l.counter ≤ count_below l.bound l.numbers;
}
