use Rattle.std.proofs.Common.{◌≡◌, ◌++◌, length, ap, ◌∙◌, arith}
use Rattle.std.specs.Prelude.{encode_utf8}
use Rattle.std.specs.Str.{chars}
use Rattle.std.proofs.lemmas.List.{nil_from_length}
use Rattle.std.proofs.lemmas.Str.{chars-nil}
use Rattle.sa_text.proofs.PointLemmas.{chars-push}
use Rattle.sa_text.proofs.points.last_point.Goals as goal

pub returns-in_err-last-clause-cut : goal.returns-in_err-last-clause-cut
returns-in_err-last-clause-cut c =
    let e : length c.args.bytes.now ≡ 0 = omega (arith, c.in_err-last.ensures.steps.0, c.chars-points.ensures.len, ap length c.from_utf8_unchecked.ensures) in
    rw c.from_residual.ensures (ap chars (nil_from_length c.args.bytes.now e) ∙ chars-nil)

pub returns-clause-cut : goal.returns-clause-cut
returns-clause-cut c =
    let e : c.args.bytes.now ≡ c.as_bytes.result.now ++ encode_utf8 c.in_ok-last.last = cc (c.in_ok-last.ensures.steps) in
    chars-push c.args.bytes.now c.as_bytes.result.now c.in_ok-last.last c.requires (c.as_bytes.ensures.utf8) e
