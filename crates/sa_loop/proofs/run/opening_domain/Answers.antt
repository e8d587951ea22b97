use Rattle.std.proofs.Common.{sym, ◌∙◌, subst}
use Rattle.sa_alloc.specs.Consistency.{IsSmall}
use Rattle.sa_hall.specs.Domains.{ArePlains}
use Rattle.sa_loop.proofs.SlotLemmas.{small-lengths, small-plains}
use Rattle.sa_loop.proofs.run.opening_domain.Goals as goal

pub new-requires-clause-lengths : goal.new-requires-clause-lengths
new-requires-clause-lengths g c κs within = subst IsSmall (sym (c.as_slice.ensures.value ∙ c.in_ok-lengths.ensures)) (small-lengths c.args.decls.now c.in-Descr.number c.requires.declared)

pub new-requires-clause-plains : goal.new-requires-clause-plains
new-requires-clause-plains g c κs within = subst ArePlains (sym (c.as_slice-2.ensures.value ∙ c.in_ok-kinds.ensures)) (small-plains c.args.decls.now c.in-Descr.number c.requires.declared)
