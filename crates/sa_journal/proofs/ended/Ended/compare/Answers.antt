use Rattle.std.proofs.Common.{◌≡◌, ap, sym, subst, ◌∙◌}
use Rattle.sa_journal.specs.Parties.{IsParty, seat_of}
use Rattle.sa_journal.specs.Chains.{Roomy, keys_of, keyed, chain_of}
use Rattle.sa_journal.specs.Journals.{Settled}
use Rattle.sa_journal.proofs.TieLemmas.{ended_keys}
use Rattle.sa_journal.proofs.ended.Ended.compare.Goals as goal

pub walk-requires-clause-keys : goal.walk-requires-clause-keys
walk-requires-clause-keys g c κs within =
    let party : IsParty c.self.inside.descrs c.self.inside.tasks c.args.chain.now.it.party =
    subst (λ (v : Settled g.row.D.Denot). IsParty v.descrs v.tasks c.args.chain.now.it.party) (sym c.self.view_is) c.requires.party in
    subst (λ (x : Roomy g.row.D.Denot). keys_of x.it.lines ≡ keys_of (chain_of g.D.Deed.said x.it.party (keyed c.self.inside.tokens.items))) (sym c.meet.ensures.same.1)
    (sym c.meet.ensures.keys
    ∙ ended_keys g.D.Deed.said _ _ _ _ _ c.self.invariant.1 c.args.chain.now.it.party party c.index_mut-near.result.now c.seat.result
    (c.seat.ensures ∙ ap (seat_of c.self.inside.descrs) c.party.ensures) c.index_mut-near.ensures.value)
