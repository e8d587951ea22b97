use Rattle.std.proofs.Common.{◌∙◌, ◌++◌, IsUtf8, sym, ap, ap₂, subst, length, replicate, arith, length-append}
use Rattle.std.specs.List.{concat}
use Rattle.std.specs.Str.{chars}
use Rattle.std.proofs.lemmas.Str.{IsUtf8-append, chars-append}
use Rattle.sa_text.specs.Building.{bytes_of}
use Rattle.sa_text.proofs.MakingLemmas.{IsUtf8-concat, chars-concat, length-concat, room-holds}
use Rattle.sa_text.proofs.text_builder.TextBuilder.repeat.Goals as goal

pub invariant_of-self : goal.invariant_of-self
invariant_of-self c =
    let part = c.args.part.now in
    let times = c.args.times in
    (subst IsUtf8 (sym c.repeat.ensures.bytes) (IsUtf8-append (bytes_of c.self.inside.place) (concat (replicate times part)) c.self.invariant.0 (IsUtf8-concat times part c.requires.utf8)), c.repeat.ensures.room, c.self.invariant.2)

pub returns-clause-text : goal.returns-clause-text
returns-clause-text c =
    let part = c.args.part.now in
    let times = c.args.times in
    ap chars c.repeat.ensures.bytes
    ∙ chars-append (bytes_of c.self.inside.place) (concat (replicate times part)) c.self.invariant.0
    ∙ ap₂ ◌++◌ (ap (λ d. d.text) c.self.view_is) (chars-concat times part c.requires.utf8)

pub returns-clause-room : goal.returns-clause-room
returns-clause-room c =
    let part = c.args.part.now in
    let times = c.args.times in
    let size = ap length c.repeat.ensures.bytes ∙ length-append (bytes_of c.self.inside.place) (concat (replicate times part)) in
    let all = length-concat times part in
    let room = ap (λ d. d.room) c.self.view_is in
    let within = room-holds c.self.inside.place c.self.inside.size c.self.invariant.1 in
    omega arith
