-- The weight of an entry's value is what its slot says.
use Rattle.std.proofs.Common.{◌+◌, ap, ◌∙◌}
use Rattle.sa_alloc.proofs.ReadLemmas.{weight-read}
use Rattle.sa_alloc.proofs.store.Store.entry_weight.Goals as goal

pub returns-clause-weight : goal.returns-clause-weight
returns-clause-weight c = ap (λ n. 16 + n) c.size.ensures.size ∙ weight-read c.self.inside _ c.self.view_is c.self.invariant _ _ c.requires c.index.ensures
