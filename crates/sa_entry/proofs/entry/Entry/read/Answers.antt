-- Bytes that spell a slot read as it, and it spells them.
use Rattle.std.proofs.Common.{◌≡◌, ◌∙◌, sym, ap, subst, Some}
use Rattle.std.specs.Cmp.Lexicographic.{other_text}
use Rattle.sa_entry.specs.Slots.{IsSlot, spelling}
use Rattle.sa_entry.proofs.SpellingLemmas.{slot_of-spelled}
use Rattle.sa_entry.proofs.entry.Entry.read.Goals as goal

pub returns-in_err-entry-clause-again : goal.returns-in_err-entry-clause-again
returns-in_err-entry-clause-again c = λ slot h e.
    absurd (c.in_err-entry.ensures.none (subst IsSlot (sym (slot_of-spelled slot c.args.bytes h e)) h))

pub returns-then-eq-clause-again : goal.returns-then-eq-clause-again
returns-then-eq-clause-again c = λ slot h e. ap Some (c.in_ok-entry.ensures.reads ∙ slot_of-spelled slot c.args.bytes h e)

pub returns-else-eq-clause-again : goal.returns-else-eq-clause-again
returns-else-eq-clause-again c = λ slot h e.
    let reads = c.entry.view_is ∙ c.in_ok-entry.ensures.reads ∙ slot_of-spelled slot c.args.bytes h e in
    let same : c.entry.inside.bytes ≡ c.args.bytes = sym c.entry.invariant.spelled ∙ ap spelling reads ∙ e in
    absurd (other_text c.entry.inside.bytes c.args.bytes (sym c.if-eq.false ∙ c.eq.ensures) same)
