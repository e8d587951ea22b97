-- Two words are the spelling of a slot outside.
use Rattle.std.proofs.Common.{sym, arith}
use Rattle.sa_entry.specs.Slots.{Outside}
use Rattle.sa_entry.proofs.SpellingLemmas.{slot_of-spelled, IsSpelling-spelled}
use Rattle.sa_entry.proofs.entry.Entry.outside.Goals as goal

pub invariant_of-result : goal.invariant_of-result
invariant_of-result c = IsSpelling-spelled (Outside c.args.key c.args.size) c.two_words.result (omega arith, c.requires) (sym c.two_words.ensures)

pub returns : goal.returns
returns c = slot_of-spelled (Outside c.args.key c.args.size) c.two_words.result (omega arith, c.requires) (sym c.two_words.ensures)
