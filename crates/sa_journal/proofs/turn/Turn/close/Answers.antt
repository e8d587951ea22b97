use Rattle.std.proofs.Common.{ap, ◌∙◌}
use Rattle.sa_journal.specs.Journals.{Opened}
use Rattle.sa_journal.proofs.TieLemmas.{turn_closes}
use Rattle.sa_journal.proofs.turn.Turn.close.Goals as goal

pub invariant_of-lines : goal.invariant_of-lines
invariant_of-lines g c =
    turn_closes g.D.Deed.said _ _ _ _ _ _ _ _ _ c.self.invariant.1 c.push_reserved.new.self.items c.push_reserved.ensures.items
    (ap (λ (v : Opened g.row.D.Denot). v.owed) c.self.view_is ∙ c.requires)
