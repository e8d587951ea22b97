-- A text inside its slot is lent from there.
use Rattle.std.proofs.Common.{refl}
use Rattle.sa_alloc.proofs.ReadLemmas.{lent-read}
use Rattle.sa_alloc.proofs.store.Store.seen.Goals as goal

pub returns-in-Fresh : goal.returns-in-Fresh
returns-in-Fresh c = lent-read c.self.inside _ c.self.view_is c.self.invariant _ _ c.requires c.index-slot.ensures _ _ c.in-Fresh.ensures.form refl c.inline_bytes.ensures

pub returns-in-Inline : goal.returns-in-Inline
returns-in-Inline c = lent-read c.self.inside _ c.self.view_is c.self.invariant _ _ c.requires c.index-slot.ensures _ _ c.in-Inline.ensures.form refl c.inline_bytes-in-Inline.ensures
