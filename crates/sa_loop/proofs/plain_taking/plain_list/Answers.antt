use Rattle.std.proofs.Common.{◌≡◌, ◌<◌, length, ℕ, sym, ap, ap₂, ◌∙◌, subst}
use Rattle.std.specs.List.{All}
use Rattle.std.proofs.lemmas.Result.{MatchResult-weaker}
use Rattle.sa_plain.specs.Plains.{PlainValue, items_at}
use Rattle.sa_call.specs.Decls.{kind_of}
use Rattle.sa_hall.specs.Contents.{plain_at}
use Rattle.sa_loop.proofs.PlanLemmas.{fits-declared, indexed}
use Rattle.sa_loop.proofs.ViewLemmas.{fits-some, plain-ready}
use Rattle.sa_loop.proofs.plain_taking.plain_list.Goals as goal

pub places-requires : goal.places-requires
places-requires c = fits-some c.args.decls.now c.args.view.now c.requires.declared c.requires.array c.requires.view

pub bounds-plains-index : goal.bounds-plains-index
bounds-plains-index c = (plain-ready c.args.decls.now c.args.plains.now c.args.view.now c.index_at_home-index.result c.in_ok-places.places.items c.requires c.index_at_home-index.ensures c.in_ok-places.ensures).index

pub items_at-requires : goal.items_at-requires
items_at-requires c =
    let d = c.args.decls.now in
    let v = c.args.view.now in
    let ps = c.args.plains.now in
    let slot = c.index_at_home-index.result in
    let at_places = c.as_slice.ensures.value ∙ c.in_ok-places.ensures in
    let r = plain-ready d ps v slot c.as_slice.result.now c.requires c.index_at_home-index.ensures at_places in
    let one : c.index-plains-index.result ≡ plain_at ps slot = indexed ps slot c.index-plains-index.result r.index c.index-plains-index.is in
    subst (λ (p : PlainValue). All (λ (n : ℕ). n < length p.items) c.as_slice.result.now) (sym one) r.below

pub returns-clause-items : goal.returns-clause-items
returns-clause-items c =
    let d = c.args.decls.now in
    let v = c.args.view.now in
    let ps = c.args.plains.now in
    let slot = c.index_at_home-index.result in
    let at_places = c.as_slice.ensures.value ∙ c.in_ok-places.ensures in
    let r = plain-ready d ps v slot c.as_slice.result.now c.requires c.index_at_home-index.ensures at_places in
    let one : c.index-plains-index.result ≡ plain_at ps slot = indexed ps slot c.index-plains-index.result r.index c.index-plains-index.is in
    let same = ap₂ items_at (one ∙ ap (plain_at ps) c.index_at_home-index.ensures) at_places in
    MatchResult-weaker c.items_at.result c.items_at.ensures.items (λ items e. e ∙ same) (λ m t. t)

pub returns-clause-fits : goal.returns-clause-fits
returns-clause-fits c =
    let d = c.args.decls.now in
    let v = c.args.view.now in
    let ps = c.args.plains.now in
    let slot = c.index_at_home-index.result in
    let at_places = c.as_slice.ensures.value ∙ c.in_ok-places.ensures in
    let r = plain-ready d ps v slot c.as_slice.result.now c.requires c.index_at_home-index.ensures at_places in
    let one : c.index-plains-index.result ≡ plain_at ps slot = indexed ps slot c.index-plains-index.result r.index c.index-plains-index.is in
    MatchResult-weaker c.items_at.result c.items_at.ensures.kind (λ items fit. fits-declared (kind_of d v.array) c.index-plains-index.result (plain_at ps slot) items r.kind_is one fit) (λ m t. t)
