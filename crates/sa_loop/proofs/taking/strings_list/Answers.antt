-- The list that was last read is the view's; else it is read, and known from then on.
use Rattle.std.proofs.Common.{◌≡◌, IfOk, List, Option, sym, ap, ◌∙◌, subst}
use Rattle.sa_text.specs.declared.value.Value.{Value}
use Rattle.sa_alloc.specs.Layouts.{Layout}
use Rattle.sa_loop.specs.declared.last_read.LastRead.{LastRead}
use Rattle.sa_loop.specs.Held.{IsStringsIn}
use Rattle.sa_loop.specs.LastReads.{AreKnown}
use Rattle.sa_loop.specs.Runs.{values_in, world_of}
use Rattle.sa_loop.proofs.LastLemmas.{known-list, known-more}
use Rattle.sa_loop.proofs.ViewLemmas.{as-strings}
use Rattle.sa_loop.proofs.taking.strings_list.Goals as goal

pub list_in-requires : goal.list_in-requires
list_in-requires g c =
    let holds = g.R.Rooms.holds c.args.rooms.now in
    let at = c.store.ensures ∙ ap (λ d. (holds d).layout) c.home_of.ensures in
    subst (λ (l : Layout). IsStringsIn c.args.decls.now c.args.view.now l) (sym at) (as-strings c.args.decls.now c.args.view.now _ c.requires.held.inside c.requires.strings)

pub returns-in-Some-clause-list : goal.returns-in-Some-clause-list
returns-in-Some-clause-list g c =
    let lasts : List (Option LastRead) = c.args.lasts.now.items in
    let lent = c.as_slice.ensures.value in
    let read = known-list c.args.decls.now (world_of (g.R.Rooms.holds c.args.rooms.now)) lasts c.args.view.now c.in-Some.list.now c.requires.known c.requires.held.inside.array c.requires.strings (rw (sym lent) c.in-Some.ensures) in
    subst (λ (known : List Value). IfOk c.copy.result (λ list. list ≡ known)) read c.copy.ensures

pub returns-clause-list : goal.returns-clause-list
returns-clause-list g c =
    let holds = g.R.Rooms.holds c.args.rooms.now in
    let at = c.store.ensures ∙ ap (λ d. (holds d).layout) c.home_of.ensures in
    c.in_ok-list.ensures ∙ ap (λ (l : Layout). values_in c.args.decls.now l c.args.view.now) at

pub returns-clause-known : goal.returns-clause-known
returns-clause-known g c =
    let d = c.args.decls.now in
    let holds = g.R.Rooms.holds c.args.rooms.now in
    let w = world_of holds in
    let v = c.args.view.now in
    let at = c.store.ensures ∙ ap (λ k. (holds k).layout) c.home_of.ensures in
    let read = c.in_ok-copy.ensures ∙ (c.in_ok-list.ensures ∙ ap (λ (l : Layout). values_in d l v) at) in
    subst (AreKnown d w) (sym c.place.ensures) (known-more d w c.args.lasts.now.items v c.in_ok-copy.copy c.requires.known read)
