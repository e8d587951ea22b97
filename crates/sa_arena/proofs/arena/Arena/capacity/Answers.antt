use Rattle.std.proofs.Common.{ap}
use Rattle.sa_arena.specs.declared.arena.Member.{Member}
use Rattle.sa_arena.proofs.HoldsLemmas.{opened, member_is}
use Rattle.sa_arena.proofs.arena.Arena.capacity.Goals as goal

pub returns : goal.returns
returns c = ap (λ (m : Member). m.capacity) (member_is (opened c.self.invariant c.self.view_is) c.args.number _ c.requires c.index.ensures)
