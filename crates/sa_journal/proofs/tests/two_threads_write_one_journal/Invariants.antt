use Rattle.std.proofs.Common.{[], ◌∷◌, map}
use Rattle.sa_journal.specs.declared.tie.Tie.{Tie}
use Rattle.sa_journal.proofs.tests.two_threads_write_one_journal.Given as goal

abbrev pub ghosts-in_two_threads : goal.ghosts-in_two_threads
ghosts-in_two_threads g a = record { roll = a.roll; shapes = record { strings = []; plains = [] } ∷ record { strings = []; plains = [] } ∷ []; tasks = 2; ties = map (λ (t : Tie). t.near.tie) a.ties }
