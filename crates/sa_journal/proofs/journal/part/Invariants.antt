use Rattle.std.specs.Vec.Iter.{into_iter_items}
use Rattle.sa_journal.proofs.PartLemmas.{IsParted}
use Rattle.sa_journal.proofs.journal.part.Given as goal

abbrev pub invariant-loop-tie : goal.invariant-loop-tie
invariant-loop-tie g l =
    (goal.iterator-loop-tie g).can_next l.tie-iterator
    × (goal.iterator-loop-tie g).is_finite l.tie-iterator
    × IsParted l.roll l.descrs l.fn.ties (into_iter_items l.tie-iterator) l.nears.items l.chains.items
