use Rattle.std.proofs.Common.{arith}
use Rattle.std.specs.Str.{chars}
use Rattle.sa_search.proofs.CountLemmas.{count-cut, count-none}
use Rattle.sa_search.proofs.CutLemmas.{some-points, size-chars}
use Rattle.sa_search.proofs.counts.count_in.Goals as goal

pub found-smaller : goal.found-smaller
found-smaller c =
    let cut = c.in-Some.ensures in
    let size = cut.size in
    let part = size-chars c.args.part.now c.requires.part_utf8 in
    omega arith

pub found-preserved : goal.found-preserved
found-preserved c =
    let cut = c.in-Some.ensures in
    let before = c.found.invariant in
    let some = some-points c.args.part.now c.requires.part_utf8 c.requires.some in
    let more = count-cut c.found.rest.now (chars c.args.part.now) c.in-Some.field-0-0.now c.in-Some.behind.now some cut in
    record { utf8 = cut.back_utf8; most = omega arith; so_far = omega arith }

pub returns-in_default : goal.returns-in_default
returns-in_default c = let none = count-none (chars c.args.part.now) (chars c.found.rest.now) c.in_default.ensures in omega arith
