use Rattle.std.proofs.Common.{◌≡◌, ◌++◌, ◌∷◌}
use Rattle.std.proofs.Math.ListN.{replicate}
use Rattle.std.specs.List.{flat_map}
use Rattle.sa_plain.specs.Written.{value_bytes}
use Rattle.sa_plain.proofs.written.push_further_times.Given as goal

abbrev pub invariant-loop-k : goal.invariant-loop-k
invariant-loop-k l = l.out.items ≡ l.fn.out.items ++ flat_map (λ v. 44 ∷ value_bytes v) (replicate l._k l.value)
