-- Short ASCII is a text.
use Rattle.std.proofs.Common.{Ok, take, refl, sym, ap, ◌∙◌, arith}
use Rattle.std.proofs.lemmas.List.{length-take-le}
use Rattle.sa_text.proofs.TextLemmas.{ascii-utf8, text_of-utf8}
use Rattle.sa_text.proofs.text.Text.of_front.Goals as goal

pub from_front-requires-clause-utf8 : goal.from_front-requires-clause-utf8
from_front-requires-clause-utf8 c = ascii-utf8 (take c.args.size c.args.bytes.now) (sym c.is_ascii.ensures ∙ c.if-is_ascii.true)

pub returns-in_default : goal.returns-in_default
returns-in_default c =
    let bytes = take c.args.size c.args.bytes.now in
    let long = length-take-le c.args.size c.args.bytes.now c.requires in
    rw (text_of-utf8 bytes (omega arith) (ascii-utf8 bytes (sym c.is_ascii.ensures ∙ c.if-is_ascii.true))) refl

pub returns-then-is_ascii : goal.returns-then-is_ascii
returns-then-is_ascii c =
    let bytes = take c.args.size c.args.bytes.now in
    let long = length-take-le c.args.size c.args.bytes.now c.requires in
    text_of-utf8 bytes (omega arith) (ascii-utf8 bytes (sym c.is_ascii.ensures ∙ c.if-is_ascii.true)) ∙ ap Ok (sym c.in-Ok.ensures)
