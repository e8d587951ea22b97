use Rattle.std.proofs.Common.{length, map}
use Rattle.sa_journal.specs.declared.tie.Tie.{Tie}
use Rattle.sa_loop.specs.Openings.{shapes_of}
use Rattle.sa_work.proofs.tasks.run_tasks.Given as goal

abbrev pub ghosts-run_within : goal.ghosts-run_within
ghosts-run_within g a = record { roll = a.roll; shapes = shapes_of a.script.now.decls; tasks = length a.script.now.tasks; ties = map (λ (t : Tie). t.near.tie) a.ties }
