use Rattle.std.proofs.Common.{List, ap, ◌∙◌, sym}
use Rattle.std.specs.List.{slice_get}
use Rattle.sa_plain.specs.Plains.{PlainValue}
use Rattle.sa_loop.specs.declared.room.Room.{Room}
use Rattle.sa_loop.proofs.GatheredLemmas.{plain-found, plain-missing}
use Rattle.sa_loop.proofs.gathering.ListedGathered.plain.Goals as goal

pub returns-in-Some : goal.returns-in-Some
returns-in-Some c =
    let l = c.args.self.now in
    c.element_at-in-Some.ensures ∙ ap (λ (ps : List PlainValue). slice_get ps c.args.k) c.as_slice-in-Some.ensures.value ∙ plain-found l.decls.now l.rooms.items c.args.number l.shaped c.in-Some.room.now c.args.k (ap (λ (rooms : List Room). slice_get rooms c.args.number) (sym c.as_slice.ensures.value) ∙ sym c.in-Some.ensures)

pub returns-in-None : goal.returns-in-None
returns-in-None c =
    let l = c.args.self.now in
    plain-missing l.decls.now l.rooms.items c.args.number l.shaped c.args.k (ap (λ (rooms : List Room). slice_get rooms c.args.number) (sym c.as_slice.ensures.value) ∙ sym c.in-None.ensures)
