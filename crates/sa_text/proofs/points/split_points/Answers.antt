use Rattle.std.proofs.Common.{IsUtf8, sym, ap, subst, ◌∙◌}
use Rattle.std.specs.Str.{chars}
use Rattle.sa_text.proofs.PointLemmas.{byte_of-some, parted}
use Rattle.sa_text.proofs.points.split_points.Goals as goal

pub returns : goal.returns
returns c =
    let bytes = c.args.bytes.now in
    let front = byte_of-some (chars bytes) c.args.k c.in_ok-at.at (sym c.in_ok-at.ensures.at) in
    let cut = parted bytes c.in_ok-at.at c.args.k c.requires front in
    record {
      whole = c.split_at.ensures.by_index.0;
      front = ap chars c.split_at.ensures.front ∙ cut.front;
      front_utf8 = subst IsUtf8 (sym c.split_at.ensures.front) cut.front_utf8;
      back = ap chars c.split_at.ensures.back ∙ cut.back;
      back_utf8 = subst IsUtf8 (sym c.split_at.ensures.back) cut.back_utf8;
      within = front.within;
    }
