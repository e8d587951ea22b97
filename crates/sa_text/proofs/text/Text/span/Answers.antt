use Rattle.std.proofs.Common.{◌≡◌, ◌-◌, encode_utf8_all, take, drop, slice_range, sym, ap, ◌∙◌}
use Rattle.std.specs.Str.{chars}
use Rattle.std.proofs.lemmas.Str.{encodes-chars}
use Rattle.sa_text.proofs.text.Text.span.Goals as goal

pub returns-clause-bytes : goal.returns-clause-bytes
returns-clause-bytes c =
    let first = c.in-Some.ensures in
    let second = c.in-Some-split_points.ensures in
    let points : chars c.in-Some-split_points.span.now ≡ slice_range c.args.self.now c.args.s c.args.e =
    second.front ∙ ap (take (c.args.e - c.args.s)) (first.back ∙ ap (drop c.args.s) c.as_bytes.ensures.points) in
    sym (encodes-chars c.in-Some-split_points.span.now second.front_utf8) ∙ ap encode_utf8_all points
