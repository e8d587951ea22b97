use Rattle.std.proofs.Common.{◌∙◌, ap₂}
use Rattle.std.specs.Str.{bytes_eq}
use Rattle.sa_text.proofs.TextLemmas.{bytes_eq-chars}
use Rattle.sa_text.proofs.text.Text.is_same.Goals as goal

pub returns : goal.returns
returns c =
    c.is_same.ensures
    ∙ bytes_eq-chars c.self.inside.bytes c.other.inside.bytes c.self.invariant.0 c.other.invariant.0
    ∙ ap₂ bytes_eq c.self.view_is c.other.view_is
