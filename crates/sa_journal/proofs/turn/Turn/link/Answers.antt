use Rattle.std.proofs.Common.{ap, sym, ◌∙◌, slice_index_or, false}
use Rattle.sa_journal.specs.Parties.{names, seat_of, debt_of}
use Rattle.sa_journal.specs.Chains.{keys_of, chain_of}
use Rattle.sa_journal.specs.Journals.{Opened}
use Rattle.sa_journal.proofs.TieLemmas.{turn_before, turn_links}
use Rattle.sa_journal.proofs.turn.Turn.link.Goals as goal

pub invariant_of-self : goal.invariant_of-self
invariant_of-self g c = (
  c.self.invariant.0,
  turn_links g.D.Deed.said _ _ _ _ _ _ _ _ _ c.self.invariant.1 c.args.chain.now.it.party c.index_mut-near.result.now c.seat.result
      (c.seat.ensures ∙ (λ i. seat_of (c.self.invariant.0 i) (c.party-party.ensures i)))
      (ap (λ (v : Opened g.row.D.Denot). names (g.D.Deed.said v.line.1.deed) c.args.chain.now.it.party) c.self.view_is ∙ c.requires.named)
      c.debt.result c.push.new.near (c.debt.ensures ∙ ap debt_of c.party-party.ensures) c.index_mut-near.ensures.value
      (ap (λ (v : Opened g.row.D.Denot). slice_index_or v.owed (debt_of c.args.chain.now.it.party) false) c.self.view_is ∙ c.requires.owed)
      c.push.ensures.near.0 c.push.ensures.near.1,
)

pub returns-clause-before : goal.returns-clause-before
returns-clause-before g c =
    sym c.push.ensures.before ∙ turn_before g.D.Deed.said _ _ _ _ _ _ _ _ _ c.self.invariant.1 c.args.chain.now.it.party c.index_mut-near.result.now c.seat.result
    (c.seat.ensures ∙ (λ i. seat_of (c.self.invariant.0 i) (c.party-party.ensures i)))
    (ap (λ (v : Opened g.row.D.Denot). names (g.D.Deed.said v.line.1.deed) c.args.chain.now.it.party) c.self.view_is ∙ c.requires.named)
    c.index_mut-near.ensures.value
    (ap (λ (v : Opened g.row.D.Denot). slice_index_or v.owed (debt_of c.args.chain.now.it.party) false) c.self.view_is ∙ c.requires.owed)
    ∙ ap (λ (v : Opened g.row.D.Denot). keys_of (chain_of g.D.Deed.said c.args.chain.now.it.party v.lines)) c.self.view_is
