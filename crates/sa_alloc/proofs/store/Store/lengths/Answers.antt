use Rattle.sa_alloc.proofs.ReadLemmas.{store-sound}
use Rattle.sa_alloc.proofs.store.Store.lengths.Goals as goal

pub returns-clause-sound : goal.returns-clause-sound
returns-clause-sound c = store-sound c.self.inside _ c.self.view_is c.self.invariant
