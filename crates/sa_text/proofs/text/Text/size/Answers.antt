-- A text's bytes are those of its code points, since the bytes are UTF-8.
use Rattle.std.proofs.Common.{sym, ap, ◌∙◌, encode_utf8_all, length}
use Rattle.std.proofs.lemmas.Str.{encodes-chars}
use Rattle.sa_text.proofs.text.Text.size.Goals as goal

pub returns-clause-size : goal.returns-clause-size
returns-clause-size c =
    c.len.ensures ∙ ap length (sym (encodes-chars c.self.inside.bytes c.self.invariant.0) ∙ ap encode_utf8_all c.self.view_is)
