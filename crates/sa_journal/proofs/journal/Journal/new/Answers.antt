use Rattle.std.proofs.Common.{◌+◌, ℕ, List, length, map, sym, subst, ◌∙◌}
use Rattle.std.proofs.lemmas.List.{length-map}
use Rattle.boxcar.specs.Table.{Shelves, Where}
use Rattle.sa_tie.specs.Seated.{TableId}
use Rattle.sa_journal.specs.declared.tie.Tie.{Tie}
use Rattle.sa_journal.specs.declared.line.Line.{Line}
use Rattle.sa_journal.specs.Chains.{keyed}
use Rattle.sa_journal.specs.Journals.{IsNew, nothing_more, AreLines, AreTied}
use Rattle.sa_journal.proofs.PartLemmas.{new_count, new_each}
use Rattle.sa_journal.proofs.TieLemmas.{begins}
use Rattle.sa_journal.proofs.journal.Journal.new.Goals as goal

pub invariant_of-lines : goal.invariant_of-lines
invariant_of-lines g c =
    subst (λ (ts : List (Where (Line g.row.D.Denot))). AreLines g.D.Deed.said g.B.Binding.roll (length g.B.Binding.shapes) g.B.Binding.tasks ts
    × AreTied g.D.Deed.said (length g.B.Binding.shapes) g.B.Binding.tasks g.B.Binding.ties (keyed ts) nothing_more c.in_ok-nears.nears.items) (sym c.new.ensures.items)
    (begins g.D.Deed.said g.B.Binding.roll (length g.B.Binding.shapes) g.B.Binding.tasks g.B.Binding.ties c.args.ties c.in_ok-nears.nears.items c.in_ok-nears.ensures.nears
    c.requires.fresh (c.requires.count ∙ (λ i. c.requires.descrs i + c.requires.tasks i)) c.requires.ties)

pub returns-clause-count : goal.returns-clause-count
returns-clause-count g c =
    new_count c.args.roll c.args.descrs 0 (map (λ (t : Tie). t.near.tie) c.args.ties) c.in_ok-nears.chains c.in_ok-nears.ensures.chains ∙ length-map c.args.ties (λ (t : Tie). t.near.tie) ∙ c.requires.count

pub returns-clause-each : goal.returns-clause-each
returns-clause-each g c k chain at =
    subst (λ (x : Shelves × List TableId × ℕ). IsNew x.0 x.1 x.2 k chain.it) (λ i. (c.requires.roll i, c.requires.ties i, c.requires.descrs i))
    (new_each c.args.roll c.args.descrs (map (λ (t : Tie). t.near.tie) c.args.ties) c.in_ok-nears.chains c.in_ok-nears.ensures.chains k chain at)
