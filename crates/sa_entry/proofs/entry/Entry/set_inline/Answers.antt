-- The bytes that were written are the spelling of the inline slot.
use Rattle.std.proofs.Common.{arith}
use Rattle.sa_entry.specs.Slots.{Inline}
use Rattle.sa_entry.proofs.SpellingLemmas.{slot_of-spelled, IsSpelling-spelled, spelling-inline, all-bytes}
use Rattle.sa_entry.proofs.entry.Entry.set_inline.Goals as goal

pub invariant_of-self : goal.invariant_of-self
invariant_of-self c =
    IsSpelling-spelled (Inline c.args.bytes.now) _ (c.requires, all-bytes c.args.bytes.now (λ i. let fits = c.type_inv.bytes i in omega arith)) (spelling-inline c.args.bytes.now c.copy_from_slice.new.self c.requires c.copy_from_slice.ensures.after)

pub returns : goal.returns
returns c =
    slot_of-spelled (Inline c.args.bytes.now) _ (c.requires, all-bytes c.args.bytes.now (λ i. let fits = c.type_inv.bytes i in omega arith)) (spelling-inline c.args.bytes.now c.copy_from_slice.new.self c.requires c.copy_from_slice.ensures.after)
