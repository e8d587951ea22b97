use Rattle.std.proofs.Common.{[], ◌∷◌, map}
use Rattle.sa_journal.specs.Shapes.{Numbers}
use Rattle.sa_journal.specs.declared.tie.Tie.{Tie}
use Rattle.sa_hall.proofs.tests.two_threads_write_under_the_same_locks.Given as goal

abbrev pub ghosts-in_two_threads : goal.ghosts-in_two_threads
ghosts-in_two_threads g a = record {
  roll = a.roll;
  shapes = record { strings = 4 ∷ []; plains = (Numbers, 3) ∷ [] } ∷ record { strings = 2 ∷ []; plains = [] } ∷ [];
  tasks = 2;
  ties = map (λ (t : Tie). t.near.tie) a.ties;
}
