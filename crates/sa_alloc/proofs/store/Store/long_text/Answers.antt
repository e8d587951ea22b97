use Rattle.std.proofs.Common.{sym, ◌∙◌}
use Rattle.sa_alloc.proofs.CopyLemmas.{long-shown, text-shown}
use Rattle.sa_alloc.proofs.store.Store.long_text.Goals as goal

pub long_part-requires : goal.long_part-requires
long_part-requires c = text-shown _ _ c.seen.ensures

pub returns-clause-text : goal.returns-clause-text
returns-clause-text c = c.long_part.ensures.text ∙ sym (long-shown _ _ c.seen.ensures)
