use Rattle.std.proofs.Common.{◌∙◌, sym, ap, pos, w32}
use Rattle.std.specs.Prelude.{unsigned_abs}
use Rattle.std.proofs.lemmas.Int.{to_z-of_z}
use Rattle.std.specs.Prelude.{int_lt}
use Rattle.sa_view.proofs.SliceLemmas.{slice-back, slice-forth}
use Rattle.sa_view.proofs.view.View.slice.Goals as goal

pub returns-then-c-gt0 : goal.returns-then-c-gt0
returns-then-c-gt0 c =
    let same = to_z-of_z w32 c.args.c c.ranges.c in
    let counted = c.steps_below.ensures c.args.len c.bound_up-end.ensures.within in
    let slice = slice-forth c.args.array c.args.len c.unsigned_abs-stride.result c.args.a c.args.b c.args.c (c.unsigned_abs-stride.ensures.value ∙ ap unsigned_abs same) (ap (int_lt (pos 0)) (sym same) ∙ c.if-c-gt0.true) in
    cc (same, counted, slice)

pub returns-else-c-gt0 : goal.returns-else-c-gt0
returns-else-c-gt0 c =
    let same = to_z-of_z w32 c.args.c c.ranges.c in
    let counted = c.steps_below-else-c-gt0.ensures c.args.len c.bound_down-start.ensures.within in
    let slice = slice-back c.args.array c.args.len c.unsigned_abs-stride.result c.args.a c.args.b c.args.c c.requires.step (c.unsigned_abs-stride.ensures.value ∙ ap unsigned_abs same) (ap (int_lt (pos 0)) (sym same) ∙ c.if-c-gt0.false) in
    cc (same, counted, slice)
