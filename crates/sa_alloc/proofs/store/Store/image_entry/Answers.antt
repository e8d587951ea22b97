use Rattle.std.proofs.Common.{◌+◌, ap, ◌∙◌}
use Rattle.sa_alloc.specs.Layouts.{entry_image}
use Rattle.sa_alloc.proofs.store.Store.image_entry.Goals as goal

pub returns : goal.returns
returns c = c.image_at.ensures ∙ ap (λ n. entry_image c.args.self.now.contents.layout (n + c.args.place)) c.first.ensures.first
