use Rattle.std.proofs.Common.{◌≡◌, ◌≤◌, ◌<◌, length, List, ℕ, sym, ap, ap₂, ◌∙◌, subst, arith}
use Rattle.std.specs.List.{All, sum_by}
use Rattle.sa_plain.specs.Items.{item_weight}
use Rattle.sa_plain.specs.Plains.{PlainValue, items_at}
use Rattle.sa_hall.specs.Contents.{plain_at}
use Rattle.sa_loop.proofs.PlanLemmas.{indexed}
use Rattle.sa_loop.proofs.ViewLemmas.{fits-some, plain-ready}
use Rattle.sa_loop.proofs.plain_taking.plain_weight.Goals as goal

pub places-requires : goal.places-requires
places-requires c = fits-some c.args.decls.now c.args.view.now c.requires.declared c.requires.array c.requires.view

pub bounds-plains-index : goal.bounds-plains-index
bounds-plains-index c = (plain-ready c.args.decls.now c.args.plains.now c.args.view.now c.index_at_home-index.result c.in_ok-places.places.items c.requires c.index_at_home-index.ensures c.in_ok-places.ensures).index

pub weight_of_places-requires-clause-below : goal.weight_of_places-requires-clause-below
weight_of_places-requires-clause-below c =
    let d = c.args.decls.now in
    let v = c.args.view.now in
    let ps = c.args.plains.now in
    let slot = c.index_at_home-index.result in
    let at_places = c.as_slice.ensures.value ∙ c.in_ok-places.ensures in
    let r = plain-ready d ps v slot c.as_slice.result.now c.requires c.index_at_home-index.ensures at_places in
    let one : c.index-plains-index.result ≡ plain_at ps slot = indexed ps slot c.index-plains-index.result r.index c.index-plains-index.is in
    subst (λ (p : PlainValue). All (λ (n : ℕ). n < length p.items) c.as_slice.result.now) (sym one) r.below

pub weight_of_places-requires-clause-few : goal.weight_of_places-requires-clause-few
weight_of_places-requires-clause-few c =
    let r = plain-ready c.args.decls.now c.args.plains.now c.args.view.now c.index_at_home-index.result c.as_slice.result.now c.requires c.index_at_home-index.ensures (c.as_slice.ensures.value ∙ c.in_ok-places.ensures) in
    r.few

pub returns-clause-weight : goal.returns-clause-weight
returns-clause-weight c =
    let d = c.args.decls.now in
    let v = c.args.view.now in
    let ps = c.args.plains.now in
    let slot = c.index_at_home-index.result in
    let at_places = c.as_slice.ensures.value ∙ c.in_ok-places.ensures in
    let r = plain-ready d ps v slot c.as_slice.result.now c.requires c.index_at_home-index.ensures at_places in
    let one : c.index-plains-index.result ≡ plain_at ps slot = indexed ps slot c.index-plains-index.result r.index c.index-plains-index.is in
    c.weight_of_places.ensures.weight ∙ ap₂ (λ (p : PlainValue) (ks : List ℕ). sum_by item_weight (items_at p ks)) (one ∙ ap (plain_at ps) c.index_at_home-index.ensures) at_places

pub returns-clause-most : goal.returns-clause-most
returns-clause-most c =
    let r = plain-ready c.args.decls.now c.args.plains.now c.args.view.now c.index_at_home-index.result c.as_slice.result.now c.requires c.index_at_home-index.ensures (c.as_slice.ensures.value ∙ c.in_ok-places.ensures) in
    let few = r.few in
    let most = c.weight_of_places.ensures.most in
    omega arith
