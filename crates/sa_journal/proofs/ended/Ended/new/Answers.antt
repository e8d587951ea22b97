use Rattle.std.proofs.Common.{ℕ, All, sym, subst}
use Rattle.boxcar.specs.Table.{Where}
use Rattle.sa_journal.specs.declared.line.Line.{Line}
use Rattle.sa_journal.specs.Parties.{NamesParties}
use Rattle.sa_journal.specs.Chains.{Keyed}
use Rattle.sa_journal.proofs.ListLemmas.{all_of_map}
use Rattle.sa_journal.proofs.ended.Ended.new.Goals as goal

pub returns-clause-parties : goal.returns-clause-parties
returns-clause-parties g c =
    all_of_map (λ (l : Keyed g.row.D.Denot). NamesParties c.args.descrs c.args.tasks (g.D.Deed.said l.1.deed)) (λ (t : Where (Line g.row.D.Denot)). (t.index, t.value)) c.lines.inside.tokens.items
    (subst (λ (x : ℕ × ℕ). All (λ (t : Where (Line g.row.D.Denot)). NamesParties x.0 x.1 (g.D.Deed.said t.value.deed)) c.lines.inside.tokens.items)
    (λ i. (sym c.requires.descrs i, sym c.requires.tasks i)) c.lines.invariant.0.parties)
