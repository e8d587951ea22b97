use Rattle.std.proofs.Common.{sym, ◌∙◌, arith}
use Rattle.std.specs.Option.{option_copied}
use Rattle.std.specs.Prelude.{encode_utf8}
use Rattle.std.specs.Str.{chars}
use Rattle.sa_edit.specs.Strips.{is_in}
use Rattle.sa_edit.proofs.StripLemmas.{front-less, front-place}
use Rattle.sa_edit.proofs.strips.without_front.Goals as goal

pub loop-point-preserved : goal.loop-point-preserved
loop-point-preserved c =
    let before = c.loop-point.invariant in
    let first = c.in-Some.ensures in
    let point = c.in-Some.point in
    let behind = c.in-Some.behind.now in
    record {
      utf8 = first.utf8;
      most = omega (arith, first.shorter);
      place = front-place c.args.bytes.now c.loop-point.rest.now (encode_utf8 point) behind before.most before.place first.bytes;
      points = front-less (is_in (option_copied c.args.set)) point (chars behind) (chars c.loop-point.rest.now) (sym c.is_in.ensures ∙ c.if-not-is_in.false) first.cut ∙ before.points;
    }
