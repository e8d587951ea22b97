use Rattle.std.proofs.Common.{[], ◌∷◌, map}
use Rattle.sa_journal.specs.declared.tie.Tie.{Tie}
use Rattle.sa_journal.proofs.tests.chains_are_the_lines_that_name_their_party.Given as goal

abbrev pub ghosts-in_one_thread : goal.ghosts-in_one_thread
ghosts-in_one_thread g a = record { roll = a.roll; shapes = record { strings = []; plains = [] } ∷ record { strings = []; plains = [] } ∷ []; tasks = 2; ties = map (λ (t : Tie). t.near.tie) a.ties }
