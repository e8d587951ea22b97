use Rattle.std.proofs.Common.{◌≡◌, ◌∷◌, [], ◌++◌, ◌-◌, codes}
use Rattle.std.specs.List.{flat_map}
use Rattle.sa_lines.specs.Lines.{line}
use Rattle.sa_sample.specs.Samples.{sample_of, task_lines}
use Rattle.sa_sample.proofs.making.sample.Given as goal

abbrev pub invariant-loop : goal.invariant-loop
invariant-loop l = l.out.items ++ flat_map line (task_lines (8 - l.counter) l.draws.state ++ codes "end" ∷ []) ≡ sample_of l.fn.number
