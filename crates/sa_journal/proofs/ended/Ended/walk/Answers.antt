use Rattle.std.proofs.Common.{◌≤◌, ◌+◌, ap, sym, ◌∙◌, subst, arith}
use Rattle.std.proofs.lemmas.List.{length-map}
use Rattle.boxcar.specs.Table.{Where}
use Rattle.sa_journal.specs.declared.line.Line.{Line}
use Rattle.sa_journal.specs.Parties.{names}
use Rattle.sa_journal.specs.Chains.{Keyed, keyed, keys_of, chain_of}
use Rattle.sa_journal.specs.Journals.{Settled}
use Rattle.sa_journal.proofs.WalkLemmas.{IsWalked, walk_begins, walk_key, walk_takes, walk_skips, walk_ends, keyed_at}
use Rattle.sa_journal.proofs.ended.Ended.walk.Goals as goal
use Rattle.sa_journal.proofs.ended.Ended.walk.Goals.{then-is_named, else-is_named}

pub loop-token-init : goal.loop-token-init
loop-token-init g c = walk_begins g.D.Deed.said c.args.chain.now.it.party c.args.chain.now.it.lines (keyed c.deref-token-items.result.now)
    (c.requires.keys ∙ ap (λ (v : Settled g.row.D.Denot). keys_of (chain_of g.D.Deed.said c.args.chain.now.it.party v.lines)) (sym c.self.view_is)
    ∙ ap (λ ts. keys_of (chain_of g.D.Deed.said c.args.chain.now.it.party (keyed ts))) (sym c.deref-token-items.ensures.value))

pub agrees-requires-clause-key : goal.agrees-requires-clause-key
agrees-requires-clause-key g c κs within =
    walk_key g.D.Deed.said c.args.chain.now.it.party c.args.chain.now.it.lines (keyed c.deref-token-items.result.now) c.loop-token.at c.loop-token.token-index c.loop-token.invariant
    (c.token-item.result.index, c.token-item.result.value) (keyed_at c.deref-token-items.result.now c.loop-token.token-index c.token-item.result c.loop-token-test.true c.token-item.is)
    ((λ i. names (g.D.Deed.said (sym c.line.ensures i).deed) (sym c.party-party.ensures i)) ∙ sym c.is_named.ensures ∙ c.if-is_named.true)

pub overflow_add-at : goal.overflow_add-at
overflow_add-at g c = let few : c.loop-token.at ≤ c.loop-token.token-index = c.loop-token.invariant.few in omega (arith, c.loop-token-test.true, c.deref-token-items.type_inv.0)

pub loop-token-preserved : goal.loop-token-preserved
loop-token-preserved g c =
    let here = keyed_at c.deref-token-items.result.now c.loop-token.token-index c.token-item.result c.loop-token-test.true c.token-item.is in
    elim c.if-is_named.branch [
      | then-is_named w ↦ subst (λ n. IsWalked g.D.Deed.said c.args.chain.now.it.party c.args.chain.now.it.lines (keyed c.deref-token-items.result.now) n (c.loop-token.token-index + 1)) (sym w.at-is)
          (walk_takes g.D.Deed.said c.args.chain.now.it.party c.args.chain.now.it.lines (keyed c.deref-token-items.result.now) c.loop-token.at c.loop-token.token-index c.loop-token.invariant
          (c.token-item.result.index, c.token-item.result.value) here
          ((λ i. names (g.D.Deed.said (sym c.line.ensures i).deed) (sym c.party-party.ensures i)) ∙ sym c.is_named.ensures ∙ w.if-is_named.true) w.agrees.ensures)
      | else-is_named w ↦ subst (λ n. IsWalked g.D.Deed.said c.args.chain.now.it.party c.args.chain.now.it.lines (keyed c.deref-token-items.result.now) n (c.loop-token.token-index + 1)) (sym w.at-is)
          (walk_skips g.D.Deed.said c.args.chain.now.it.party c.args.chain.now.it.lines (keyed c.deref-token-items.result.now) c.loop-token.at c.loop-token.token-index c.loop-token.invariant
          (c.token-item.result.index, c.token-item.result.value) here
          ((λ i. names (g.D.Deed.said (sym c.line.ensures i).deed) (sym c.party-party.ensures i)) ∙ sym c.is_named.ensures ∙ w.if-is_named.false))
    ]

pub returns : goal.returns
returns g c =
    walk_ends g.D.Deed.said c.args.chain.now.it.party c.args.chain.now.it.lines (keyed c.deref-token-items.result.now) c.loop-token.at c.loop-token.token-index c.loop-token.invariant
    (let as_many = length-map {B = Keyed g.row.D.Denot} c.deref-token-items.result.now (λ (t : Where (Line g.row.D.Denot)). (t.index, t.value)) in omega (arith, as_many, c.loop-token-test.false))
    ∙ ap (λ ts. chain_of g.D.Deed.said c.args.chain.now.it.party (keyed ts)) c.deref-token-items.ensures.value
    ∙ ap (λ (v : Settled g.row.D.Denot). chain_of g.D.Deed.said c.args.chain.now.it.party v.lines) c.self.view_is
