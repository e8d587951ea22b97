use Rattle.std.proofs.Common.{◌≡◌, map, take}
use Rattle.sa_plain.specs.Plains.{opening_plain}
use Rattle.sa_hall.proofs.domain.opening_plains.Given as goal

abbrev pub invariant-loop-kind : goal.invariant-loop-kind
invariant-loop-kind l = l.made.items ≡ map (λ p. opening_plain p.0 p.1) (take l.kind-index l.plains)
