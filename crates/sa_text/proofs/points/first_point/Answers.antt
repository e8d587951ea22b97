use Rattle.std.proofs.Common.{◌≡◌, ◌++◌}
use Rattle.std.specs.Prelude.{encode_utf8}
use Rattle.std.proofs.lemmas.Str.{chars_past_char}
use Rattle.sa_text.proofs.points.first_point.Goals as goal

pub returns-clause-cut : goal.returns-clause-cut
returns-clause-cut c =
    let e : c.args.bytes.now ≡ encode_utf8 c.in_ok-first.first ++ c.as_bytes.result.now = cc (c.in_ok-first.ensures.steps.0) in
    chars_past_char c.args.bytes.now c.as_bytes.result.now c.in_ok-first.first c.requires e
