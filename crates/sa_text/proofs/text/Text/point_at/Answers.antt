use Rattle.std.proofs.Common.{◌≡◌, ◌∷◌, IsUtf8, length, drop, sym, ap, subst, ◌∙◌, arith}
use Rattle.std.specs.Str.{chars}
use Rattle.sa_text.specs.Points.{points_before}
use Rattle.sa_text.proofs.PointLemmas.{parted-text, head-of-drop, no-chars}
use Rattle.sa_text.proofs.text.Text.point_at.Goals as goal

pub first_point-requires : goal.first_point-requires
first_point-requires c =
    let cut = parted-text c.as_bytes.result.now c.args.self.now c.args.at c.as_bytes.ensures.utf8 c.as_bytes.ensures.points c.requires.begins in
    subst IsUtf8 (sym c.split_at.ensures.back) cut.back_utf8

pub unreachable-requires : goal.unreachable-requires
unreachable-requires c =
    let cut = parted-text c.as_bytes.result.now c.args.self.now c.args.at c.as_bytes.ensures.utf8 c.as_bytes.ensures.points c.requires.begins in
    let none = no-chars c.split_at.result.1.now (subst IsUtf8 (sym c.split_at.ensures.back) cut.back_utf8) (c.in_default.ensures.cut) in
    let size = ap length c.as_bytes.ensures.bytes in
    omega arith

pub returns-clause-point : goal.returns-clause-point
returns-clause-point c =
    let text = c.args.self.now in
    let at = c.args.at in
    let cut = parted-text c.as_bytes.result.now text at c.as_bytes.ensures.utf8 c.as_bytes.ensures.points c.requires.begins in
    let first = c.in-Some.ensures.cut in
    let e : drop (points_before text at) text ≡ c.in-Some.point ∷ chars c.in-Some.field-0-1.now =
    sym (ap (drop (points_before text at)) c.as_bytes.ensures.points) ∙ sym cut.back ∙ ap chars (sym c.split_at.ensures.back) ∙ first in
    sym (head-of-drop text (points_before text at) c.in-Some.point (chars c.in-Some.field-0-1.now) e)
