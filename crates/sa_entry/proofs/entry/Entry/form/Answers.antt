-- A slot's form has the sizes that the slot may hold.
use Rattle.std.proofs.Common.{sym, subst}
use Rattle.sa_entry.specs.Slots.{HasFormSizes}
use Rattle.sa_entry.proofs.SpellingLemmas.{sizes-form}
use Rattle.sa_entry.proofs.entry.Entry.form.Goals as goal

pub returns-clause-sizes : goal.returns-clause-sizes
returns-clause-sizes c = subst HasFormSizes (sym c.form_in.ensures) (sizes-form _ c.self.invariant.slot)
