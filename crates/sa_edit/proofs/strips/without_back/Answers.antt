use Rattle.std.proofs.Common.{sym, ◌∙◌, arith}
use Rattle.std.specs.Option.{option_copied}
use Rattle.std.specs.Prelude.{encode_utf8}
use Rattle.std.specs.Str.{chars}
use Rattle.sa_edit.specs.Strips.{is_in}
use Rattle.sa_edit.proofs.StripLemmas.{back-less, back-place}
use Rattle.sa_edit.proofs.strips.without_back.Goals as goal

pub loop-point-preserved : goal.loop-point-preserved
loop-point-preserved c =
    let earlier = c.loop-point.invariant in
    let last = c.in-Some.ensures in
    let point = c.in-Some.point in
    let before = c.in-Some.before.now in
    record {
      utf8 = last.utf8;
      most = omega (arith, last.shorter);
      place = back-place c.args.bytes.now c.loop-point.rest.now before (encode_utf8 point) earlier.place last.bytes;
      points = back-less (is_in (option_copied c.args.set)) point (chars before) (chars c.loop-point.rest.now) (sym c.is_in.ensures ∙ c.if-not-is_in.false) last.cut ∙ earlier.points;
    }
