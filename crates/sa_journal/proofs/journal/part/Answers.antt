use Rattle.std.proofs.Common.{◌≡◌, [], List, length, map, ap, sym, ◌∙◌, subst, arith, vec_len}
use Rattle.std.proofs.lemmas.List.{nil_from_length}
use Rattle.std.specs.Vec.Iter.{into_iter_items}
use Rattle.sa_tie.specs.Ends.{End}
use Rattle.sa_journal.specs.declared.tie.Tie.{Tie}
use Rattle.sa_journal.specs.Parties.{party_at}
use Rattle.sa_journal.specs.Chains.{Roomy}
use Rattle.sa_journal.proofs.PartLemmas.{IsParted, part_begins, part_takes, part_ends}
use Rattle.sa_journal.proofs.journal.part.Goals as goal

pub loop-tie-init : goal.loop-tie-init
loop-tie-init g c = (
  tt,
  tt,
  subst (λ (x : List Tie × List End × List (Roomy g.row.D.Denot)). IsParted c.args.roll.now c.args.descrs c.args.ties x.0 x.1 x.2)
      (λ i. (sym (c.into_iter-tie-iterator.ensures.into_iter_gives.0 ∙ c.into_vec-tie-items.ensures) i, sym c.in_ok-nears.ensures.items i, sym c.in_ok-chains.ensures.items i))
      (part_begins c.args.roll.now c.args.descrs c.args.ties c.requires.fresh),
)

pub at-party-requires : goal.at-party-requires
at-party-requires g c =
    omega (arith, c.len-in-loop-tie.ensures, c.loop-tie.nears.ok.0, c.loop-tie.invariant.2.few, ap (λ (ts : List Tie). length ts) c.in-Some.ensures.steps.0, c.requires.count)

pub loop-tie-preserved : goal.loop-tie-preserved
loop-tie-preserved g c =
    let now = subst (λ (ts : List Tie). IsParted c.args.roll.now c.args.descrs c.args.ties ts c.loop-tie.nears.items c.loop-tie.chains.items) c.in-Some.ensures.steps.0 c.loop-tie.invariant.2 in
    let count : vec_len c.loop-tie.nears ≡ length c.loop-tie.nears.items = omega (arith, c.loop-tie.nears.ok.0) in
    let made = c.new.ensures ∙ (λ i. record {
      roll = c.in_ok-again.ensures i;
      party = (c.at-party.ensures ∙ ap (party_at c.args.descrs) (c.len-in-loop-tie.ensures ∙ count)) i;
      tie = c.in-Some.tie.far.tie;
      lines = [];
    }) in (
      tt,
      tt,
      subst (λ (x : List End × List (Roomy g.row.D.Denot)). IsParted c.args.roll.now c.args.descrs c.args.ties (into_iter_items c.next.new.self) x.0 x.1)
          (λ i. (sym c.in_ok-push-2.ensures.items i, sym c.in_ok-push.ensures.items i))
          (part_takes c.args.roll.now c.args.descrs c.args.ties (into_iter_items c.next.new.self) c.loop-tie.nears.items c.loop-tie.chains.items c.in-Some.tie c.new.result now made),
    )

pub returns-clause-nears : goal.returns-clause-nears
returns-clause-nears g c = (part_ends c.args.roll.now c.args.descrs c.args.ties (into_iter_items c.loop-tie.tie-iterator) c.loop-tie.nears.items c.loop-tie.chains.items c.loop-tie.invariant.2 (nil_from_length (into_iter_items c.loop-tie.tie-iterator) (omega (arith, c.loop-tie.tie-iterator.rest.ok.0, c.in-None.ensures.steps.0)))).0

pub returns-clause-chains : goal.returns-clause-chains
returns-clause-chains g c =
    ap (λ (cs : List (Roomy g.row.D.Denot)). map (λ (x : Roomy g.row.D.Denot). x.it) cs) c.from_vec.ensures
    ∙ (part_ends c.args.roll.now c.args.descrs c.args.ties (into_iter_items c.loop-tie.tie-iterator) c.loop-tie.nears.items c.loop-tie.chains.items c.loop-tie.invariant.2 (nil_from_length (into_iter_items c.loop-tie.tie-iterator) (omega (arith, c.loop-tie.tie-iterator.rest.ok.0, c.in-None.ensures.steps.0)))).1
