use Rattle.std.proofs.Common.{[], ◌∷◌, map}
use Rattle.sa_journal.specs.Shapes.{Numbers}
use Rattle.sa_journal.specs.declared.tie.Tie.{Tie}
use Rattle.sa_hall.proofs.tests.lines_stand_in_each_chain_and_change_what_is_held.Given as goal

abbrev pub ghosts-in_one_thread : goal.ghosts-in_one_thread
ghosts-in_one_thread g a = record {
  roll = a.roll;
  shapes = record { strings = 4 ∷ []; plains = (Numbers, 3) ∷ [] } ∷ record { strings = 2 ∷ []; plains = [] } ∷ [];
  tasks = 2;
  ties = map (λ (t : Tie). t.near.tie) a.ties;
}
