use Rattle.std.proofs.Common.{map}
use Rattle.std.specs.Vec.Iter.{into_iter_items}
use Rattle.sa_journal.specs.Chains.{Roomy}
use Rattle.sa_loop.proofs.OpenLemmas.{AreOpening}
use Rattle.sa_loop.proofs.run.opening_domains.Given as goal

abbrev pub invariant-loop-chain : goal.invariant-loop-chain
invariant-loop-chain g l = AreOpening g.B.Binding.roll g.B.Binding.ties g.B.Binding.shapes (map (λ (c : Roomy g.row.D.Denot). c.it) (into_iter_items l.chain-iterator)) (map (λ d. d.it) l.domains.items)
