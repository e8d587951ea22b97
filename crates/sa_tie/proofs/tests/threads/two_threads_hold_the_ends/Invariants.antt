use Rattle.sa_tie.proofs.tests.threads.two_threads_hold_the_ends.Given as goal

abbrev pub ghosts-pull_in_two_threads : goal.ghosts-pull_in_two_threads
ghosts-pull_in_two_threads g a = record { tie = a.near.tie }
