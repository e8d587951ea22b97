-- A text's bytes are those of its code points, since the bytes are UTF-8.
use Rattle.std.proofs.Common.{sym, ap, ◌∙◌, encode_utf8_all}
use Rattle.std.proofs.lemmas.Str.{encodes-chars}
use Rattle.sa_text.proofs.text.Text.as_bytes.Goals as goal

pub returns-clause-bytes : goal.returns-clause-bytes
returns-clause-bytes c =
    c.as_slice.ensures.bytes
    ∙ sym (encodes-chars c.self.inside.bytes c.self.invariant.0)
    ∙ ap encode_utf8_all c.self.view_is
