use Rattle.std.proofs.Common.{ap, ◌∙◌}
use Rattle.sa_entry.specs.Slots.{spelling}
use Rattle.sa_alloc.proofs.ReadLemmas.{image-read, sized-read}
use Rattle.sa_alloc.proofs.store.Store.image_at.Goals as goal

pub without_key-requires : goal.without_key-requires
without_key-requires c =
    sized-read c.self.inside _ c.self.view_is c.self.invariant _ _ c.requires c.index.ensures

pub returns : goal.returns
returns c =
    c.bytes.ensures.spelling ∙ ap spelling c.without_key.ensures
    ∙ image-read c.self.inside _ c.self.view_is c.self.invariant _ _ c.requires c.index.ensures
