-- The list that was last read is the view's, and has few items; else its slots are weighed.
use Rattle.std.proofs.Common.{◌≡◌, IfOk, ap, ◌∙◌, arith, subst, sym}
use Rattle.sa_text.specs.Values.{weight_of}
use Rattle.sa_alloc.specs.Layouts.{Layout}
use Rattle.sa_loop.specs.Held.{IsStringsIn}
use Rattle.sa_loop.specs.Runs.{values_in, world_of}
use Rattle.sa_loop.proofs.LastLemmas.{known-few, known-list}
use Rattle.sa_loop.proofs.ViewLemmas.{as-strings}
use Rattle.sa_loop.proofs.taking.strings_weight.Goals as goal

pub weight-requires : goal.weight-requires
weight-requires g c = known-few c.args.decls.now (g.R.Rooms.has c.args.rooms.now) (g.R.Rooms.holds c.args.rooms.now) c.args.lasts.now c.args.view.now c.in-Some.list.now c.requires.held c.requires.strings c.requires.known c.in-Some.ensures

pub weight_in-requires : goal.weight_in-requires
weight_in-requires g c =
    let holds = g.R.Rooms.holds c.args.rooms.now in
    let at = c.store.ensures ∙ ap (λ d. (holds d).layout) c.home_of.ensures in
    subst (λ (l : Layout). IsStringsIn c.args.decls.now c.args.view.now l) (sym at) (as-strings c.args.decls.now c.args.view.now _ c.requires.held.inside c.requires.strings)

pub returns-in-Some-clause-weight : goal.returns-in-Some-clause-weight
returns-in-Some-clause-weight g c =
    c.weight.ensures.weight ∙ ap weight_of (known-list c.args.decls.now (world_of (g.R.Rooms.holds c.args.rooms.now)) c.args.lasts.now c.args.view.now c.in-Some.list.now c.requires.known c.requires.held.inside.array c.requires.strings c.in-Some.ensures)

pub returns-in-Some-clause-most : goal.returns-in-Some-clause-most
returns-in-Some-clause-most g c =
    let few = known-few c.args.decls.now (g.R.Rooms.has c.args.rooms.now) (g.R.Rooms.holds c.args.rooms.now) c.args.lasts.now c.args.view.now c.in-Some.list.now c.requires.held c.requires.strings c.requires.known c.in-Some.ensures in
    let most = c.weight.ensures.most in
    omega arith

pub returns-in-None-clause-weight : goal.returns-in-None-clause-weight
returns-in-None-clause-weight g c =
    let holds = g.R.Rooms.holds c.args.rooms.now in
    let at = c.store.ensures ∙ ap (λ d. (holds d).layout) c.home_of.ensures in
    subst (λ (l : Layout). IfOk c.weight_in.result (λ w. w ≡ weight_of (values_in c.args.decls.now l c.args.view.now))) at c.weight_in.ensures.weight
