use Rattle.std.proofs.Common.{ap, Some, ◌∙◌}
use Rattle.sa_entry.proofs.entry.Entry.bytes.Goals as goal

pub returns-clause-again : goal.returns-clause-again
returns-clause-again c read reads = reads _ c.self.invariant.slot c.self.invariant.spelled ∙ ap Some c.self.view_is
