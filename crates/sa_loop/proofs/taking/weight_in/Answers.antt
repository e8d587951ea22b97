use Rattle.std.proofs.Common.{◌∙◌, arith}
use Rattle.sa_loop.proofs.ViewLemmas.{ready, fits-some}
use Rattle.sa_loop.proofs.taking.weight_in.Goals as goal

pub places-requires : goal.places-requires
places-requires c = fits-some c.args.decls.now c.args.view.now c.requires.declared c.requires.array c.requires.view

pub weight-requires : goal.weight-requires
weight-requires c =
    let r = ready c.args.decls.now c.args.store.now.contents.layout c.args.view.now c.index_at_home-index.result c.as_slice.result.now c.requires c.index_at_home-index.ensures (c.as_slice.ensures.value ∙ c.in_ok-places.ensures) in
    record { array = r.index; places = r.within; few = r.few }

pub returns : goal.returns
returns c =
    let r = ready c.args.decls.now c.args.store.now.contents.layout c.args.view.now c.index_at_home-index.result c.as_slice.result.now c.requires c.index_at_home-index.ensures (c.as_slice.ensures.value ∙ c.in_ok-places.ensures) in
    record { weight = c.weight.ensures.weight ∙ r.weight; most = let few = r.few in let most = c.weight.ensures.most in omega arith }
