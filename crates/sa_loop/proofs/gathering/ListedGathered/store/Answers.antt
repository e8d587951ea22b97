use Rattle.std.proofs.Common.{List, ap, ◌∙◌, sym}
use Rattle.std.specs.List.{slice_get}
use Rattle.sa_loop.specs.declared.room.Room.{Room}
use Rattle.sa_loop.proofs.GatheredLemmas.{lengths-found, store-found, store-missing}
use Rattle.sa_loop.proofs.gathering.ListedGathered.store.Goals as goal

pub returns-in-Some-clause-store : goal.returns-in-Some-clause-store
returns-in-Some-clause-store c =
    let l = c.args.self.now in
    store-found l.decls.now l.rooms.items c.args.number l.shaped c.in-Some.room.now (ap (λ (rooms : List Room). slice_get rooms c.args.number) (sym c.as_slice.ensures.value) ∙ sym c.in-Some.ensures)

pub returns-in-Some-clause-shape : goal.returns-in-Some-clause-shape
returns-in-Some-clause-shape c =
    let l = c.args.self.now in
    lengths-found l.decls.now l.rooms.items c.args.number l.shaped c.in-Some.room.now (ap (λ (rooms : List Room). slice_get rooms c.args.number) (sym c.as_slice.ensures.value) ∙ sym c.in-Some.ensures)

pub returns-in-None-clause-store : goal.returns-in-None-clause-store
returns-in-None-clause-store c =
    let l = c.args.self.now in
    store-missing l.decls.now l.rooms.items c.args.number l.shaped (ap (λ (rooms : List Room). slice_get rooms c.args.number) (sym c.as_slice.ensures.value) ∙ sym c.in-None.ensures)
