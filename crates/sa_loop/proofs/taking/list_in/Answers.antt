use Rattle.std.proofs.Common.{◌∙◌}
use Rattle.sa_loop.proofs.ViewLemmas.{ready, fits-some}
use Rattle.sa_loop.proofs.taking.list_in.Goals as goal

pub places-requires : goal.places-requires
places-requires c = fits-some c.args.decls.now c.args.view.now c.requires.declared c.requires.array c.requires.view

pub values-requires : goal.values-requires
values-requires c =
    let r = ready c.args.decls.now c.args.store.now.contents.layout c.args.view.now c.index_at_home-index.result c.as_slice.result.now c.requires c.index_at_home-index.ensures (c.as_slice.ensures.value ∙ c.in_ok-places.ensures) in
    record { array = r.index; places = r.within; few = r.few }

pub returns : goal.returns
returns c =
    let r = ready c.args.decls.now c.args.store.now.contents.layout c.args.view.now c.index_at_home-index.result c.as_slice.result.now c.requires c.index_at_home-index.ensures (c.as_slice.ensures.value ∙ c.in_ok-places.ensures) in
    c.share.ensures ∙ c.from_vec-list.ensures ∙ c.in_ok-values.ensures ∙ r.values
