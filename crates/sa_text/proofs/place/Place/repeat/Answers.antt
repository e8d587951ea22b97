use Rattle.std.proofs.Common.{◌++◌, length, replicate, sym, ap, ◌∙◌, arith, append-nil, length-append}
use Rattle.std.specs.List.{concat}
use Rattle.std.proofs.lemmas.Bool.{eqb-true}
use Rattle.std.proofs.lemmas.List.{nil_from_length}
use Rattle.sa_text.specs.Building.{bytes_of}
use Rattle.sa_text.proofs.MakingLemmas.{concat-none, length-concat}
use Rattle.sa_text.proofs.place.Place.repeat.Goals as goal

pub returns-then-is_empty-clause-bytes : goal.returns-then-is_empty-clause-bytes
returns-then-is_empty-clause-bytes c =
    let part = c.args.part.now in
    sym (ap (λ t. bytes_of c.args.self.now ++ t) (concat-none c.args.times part (nil_from_length part (eqb-true (length part) 0 (sym c.is_empty.ensures ∙ c.if-is_empty.true)))) ∙ append-nil (bytes_of c.args.self.now))

pub returns-in-Room-clause-room : goal.returns-in-Room-clause-room
returns-in-Room-clause-room c =
    let part = c.args.part.now in
    let room = rw c.in-Room.is at c.requires.room in
    let fits = rw c.in-Room.is at c.requires.fits in
    let size = ap length c.repeat_into.ensures.items ∙ length-append c.in-Room.bytes.items (concat (replicate c.args.times part)) in
    let all = length-concat c.args.times part in
    (omega (arith, fits), omega (arith, room.1))
