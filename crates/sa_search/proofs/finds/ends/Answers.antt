use Rattle.std.proofs.Common.{length, ◌∙◌}
use Rattle.std.proofs.lemmas.Int.{to_z-of_z}
use Rattle.sa_search.specs.Finds.{start_place, end_place}
use Rattle.sa_search.proofs.EndLemmas.{ends-window}
use Rattle.sa_search.proofs.finds.ends.Goals as goal
use mir.Syntax.{w64}

pub returns-in-Some : goal.returns-in-Some
returns-in-Some c =
    let n = length c.args.a.now in
    let window = c.in-Some.window in
    let w = rw (to_z-of_z w64 c.args.start c.ranges.start, to_z-of_z w64 c.args.end c.ranges.end) at c.in-Some.ensures in
    c.ends_with.ensures.value
    ∙ ends-window c.args.a.now c.args.b.now (start_place n c.args.start) (end_place n c.args.end) window.first window.bytes.now c.as_bytes.result.now w c.as_bytes.ensures.utf8 c.as_bytes.ensures.points
