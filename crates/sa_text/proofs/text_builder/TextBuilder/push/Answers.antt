use Rattle.std.proofs.Common.{◌∙◌, ◌++◌, IsUtf8, sym, ap, subst}
use Rattle.std.specs.Str.{chars}
use Rattle.std.proofs.lemmas.Str.{IsUtf8-append, chars-append}
use Rattle.sa_text.specs.Building.{bytes_of}
use Rattle.sa_text.proofs.text_builder.TextBuilder.push.Goals as goal

pub invariant_of-self : goal.invariant_of-self
invariant_of-self c =
    (subst IsUtf8 (sym c.push.ensures.bytes) (IsUtf8-append (bytes_of c.self.inside.place) c.args.part.now c.self.invariant.0 c.requires.utf8), c.push.ensures.room, c.self.invariant.2)

pub returns-clause-text : goal.returns-clause-text
returns-clause-text c =
    ap chars c.push.ensures.bytes
    ∙ chars-append (bytes_of c.self.inside.place) c.args.part.now c.self.invariant.0
    ∙ ap (λ t. t ++ chars c.args.part.now) (ap (λ d. d.text) c.self.view_is)
