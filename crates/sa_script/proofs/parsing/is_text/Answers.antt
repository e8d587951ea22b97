use Rattle.std.specs.Str.{is_utf8}
use Rattle.std.proofs.lemmas.Str.{IsUtf8-from_is_utf8, is_utf8-from_IsUtf8}
use Rattle.std.proofs.lemmas.Bool.Decides.{same_from_decides}
use Rattle.sa_script.proofs.parsing.is_text.Goals as goal

pub returns : goal.returns
returns c =
    same_from_decides c.is_utf8.result (is_utf8 c.args.line.now)
    (λ e. c.is_utf8.ensures.0 e, λ u. c.is_utf8.ensures.1 u)
    (λ e. IsUtf8-from_is_utf8 c.args.line.now e, λ u. is_utf8-from_IsUtf8 c.args.line.now u)
