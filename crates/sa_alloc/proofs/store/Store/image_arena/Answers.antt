use Rattle.std.proofs.Common.{sym, ap, ◌∙◌}
use Rattle.sa_alloc.specs.Layouts.{arena_image}
use Rattle.sa_alloc.specs.StoreValues.{StoreValue}
use Rattle.sa_alloc.proofs.DecodedLemmas.{image-from}
use Rattle.sa_alloc.proofs.StoreLemmas.{cursor-now}
use Rattle.sa_alloc.proofs.store.Store.image_arena.Goals as goal

pub returns-clause-bytes : goal.returns-clause-bytes
returns-clause-bytes c = c.image.ensures.bytes ∙ sym (image-from c.self.inside.arena.extents c.self.invariant.consistent.holds.held) ∙ ap (λ (x : StoreValue). arena_image x.contents.layout) c.self.view_is

pub returns-clause-long : goal.returns-clause-long
returns-clause-long c = c.image.ensures.long ∙ cursor-now c.self.inside _ c.self.view_is
