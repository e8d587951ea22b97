use Rattle.std.proofs.Common.{map}
use Rattle.std.specs.Vec.Iter.{into_iter_items}
use Rattle.sa_journal.specs.Chains.{Roomy}
use Rattle.sa_loop.proofs.OpenLemmas.{ArePassing}
use Rattle.sa_loop.proofs.run.opening_passes.Given as goal

abbrev pub invariant-loop-chain : goal.invariant-loop-chain
invariant-loop-chain g l = ArePassing g.B.Binding.roll g.B.Binding.ties l._descrs l.counts (map (λ (c : Roomy g.row.D.Denot). c.it) (into_iter_items l.chain-iterator)) (map (λ p. p.it) l.passes.items)
