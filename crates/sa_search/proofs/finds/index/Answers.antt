use Rattle.std.proofs.Common.{length, Some, ap, ◌∙◌}
use Rattle.std.specs.Prelude.{option_map, pos}
use Rattle.std.proofs.lemmas.Int.{to_z-of_z}
use Rattle.sa_search.specs.Finds.{start_place, end_place}
use Rattle.sa_search.proofs.PlaceLemmas.{first-missing}
use Rattle.sa_search.proofs.finds.index.Goals as goal
use mir.Syntax.{w64}

pub returns-in_err-place-clause-missing : goal.returns-in_err-place-clause-missing
returns-in_err-place-clause-missing c =
    let n = length c.args.a.now in
    let none = rw (to_z-of_z w64 c.args.start c.ranges.start, to_z-of_z w64 c.args.end c.ranges.end) at c.in_err-place.ensures in
    first-missing c.args.a.now c.args.b.now (start_place n c.args.start) (end_place n c.args.end) c.from_residual.result (c.from_residual.ensures ∙ ap (option_map pos) none)

pub returns-clause-missing : goal.returns-clause-missing
returns-clause-missing c =
    let n = length c.args.a.now in
    let place = rw (to_z-of_z w64 c.args.start c.ranges.start, to_z-of_z w64 c.args.end c.ranges.end) at c.in_ok-place.ensures in
    first-missing c.args.a.now c.args.b.now (start_place n c.args.start) (end_place n c.args.end) (Some (pos c.in_ok-place.place)) (ap (option_map pos) place)
