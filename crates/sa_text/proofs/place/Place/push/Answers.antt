use Rattle.std.proofs.Common.{arith}
use Rattle.std.proofs.lemmas.List.{length-take-le}
use Rattle.sa_text.proofs.place.Place.push.Goals as goal

pub push-requires : goal.push-requires
push-requires c =
    let few = c.in-Inside.few in
    let room = rw c.in-Inside.is at c.requires.room in
    let fits = rw c.in-Inside.is at c.requires.fits in
    let size = length-take-le few.filled few.bytes (omega (arith, room.0, room.1, room.2)) in
    omega (arith, room.0, room.1, room.2, fits)

pub returns-in-Inside-clause-room : goal.returns-in-Inside-clause-room
returns-in-Inside-clause-room c =
    let few = c.in-Inside.few in
    let room = rw c.in-Inside.is at c.requires.room in
    let fits = rw c.in-Inside.is at c.requires.fits in
    let size = length-take-le few.filled few.bytes (omega (arith, room.0, room.1, room.2)) in
    (omega (arith, room.0, room.1, room.2, fits), room.1, c.push.ensures.whole)
