use Rattle.std.proofs.Common.{◌≡◌, ◌∙◌, Ok, refl, sym, ap, arith}
use Rattle.std.specs.Str.{chars}
use Rattle.sa_text.specs.Building.{bytes_of}
use Rattle.sa_text.proofs.MakingLemmas.{made-utf8, room-holds}
use Rattle.sa_text.proofs.text_builder.TextBuilder.finish.Goals as goal

pub returns-in-Ok : goal.returns-in-Ok
returns-in-Ok c =
    let place = c.self.inside.place in
    let text : chars (bytes_of place) ≡ c.args.self.text = ap (λ d. d.text) c.self.view_is in
    let within = room-holds place c.self.inside.size c.self.invariant.1 in
    made-utf8 (bytes_of place) c.args.self.text c.self.invariant.0 (omega (arith, c.self.invariant.2)) text
    ∙ ap Ok (sym text ∙ sym (c.from_shared.ensures ∙ ap chars c.in-Ok.ensures))

pub returns-in-Err : goal.returns-in-Err
returns-in-Err c =
    let place = c.self.inside.place in
    let text : chars (bytes_of place) ≡ c.args.self.text = ap (λ d. d.text) c.self.view_is in
    let within = room-holds place c.self.inside.size c.self.invariant.1 in
    rw (made-utf8 (bytes_of place) c.args.self.text c.self.invariant.0 (omega (arith, c.self.invariant.2)) text) refl
