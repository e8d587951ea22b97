use Rattle.std.proofs.Common.{Some, None, slice_get, sym, ap, ◌∙◌, rules, w64}
use Rattle.std.specs.Option.{option_copied}
use Rattle.std.proofs.lemmas.Int.{to_z-of_z}
use Rattle.sa_call.proofs.RowLemmas.{number-of, number-others}
use Rattle.sa_call.proofs.row.number_at.Goals as goal

pub returns-in_default : goal.returns-in_default
returns-in_default c = number-others c.args.items.now c.args.at c.in_default.not-Ints

pub returns-in-Some : goal.returns-in-Some
returns-in-Some c =
    let there = ap (slice_get c.in-Ints.numbers) (sym c.place_in.ensures) ∙ sym c.get.ensures ∙ ap option_copied c.in-Some.is in
    to_z-of_z w64 c.in-Some.number.now (search rules) ∙ number-of c.args.items.now c.in-Ints.numbers c.args.at (Some c.in-Some.number.now) c.in-Ints.is there

pub returns-in-None : goal.returns-in-None
returns-in-None c =
    let there = ap (slice_get c.in-Ints.numbers) (sym c.place_in.ensures) ∙ sym c.get.ensures ∙ ap option_copied c.in-None.is in
    number-of c.args.items.now c.in-Ints.numbers c.args.at None c.in-Ints.is there
