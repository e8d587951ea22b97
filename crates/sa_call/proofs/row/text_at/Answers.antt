use Rattle.std.proofs.Common.{Some, None, slice_get, sym, ap, ◌∙◌}
use Rattle.std.specs.Option.{option_copied}
use Rattle.sa_text.specs.declared.value.Value.TheVariants.{Missing, Of}
use Rattle.sa_call.proofs.RowLemmas.{text-of, text-others}
use Rattle.sa_call.proofs.row.text_at.Goals as goal

pub returns-in_default : goal.returns-in_default
returns-in_default c = text-others c.args.blank.now c.args.items.now c.args.at c.in_default.not-Values

pub returns-in-Some-Of : goal.returns-in-Some-Of
returns-in-Some-Of c =
    let there = ap (slice_get c.in-Values.values) (sym c.place_in.ensures) ∙ sym c.get.ensures ∙ ap option_copied c.in-Some-Of.is ∙ ap Some c.in-Some-Of.field-0-is in
    text-of c.args.blank.now c.args.items.now c.in-Values.values c.args.at (Some (Of c.in-Some-Of.text)) c.in-Values.is there

pub returns-in-Some-Missing : goal.returns-in-Some-Missing
returns-in-Some-Missing c =
    let there = ap (slice_get c.in-Values.values) (sym c.place_in.ensures) ∙ sym c.get.ensures ∙ ap option_copied c.in-Some-Missing.is ∙ ap Some c.in-Some-Missing.field-0-is in
    text-of c.args.blank.now c.args.items.now c.in-Values.values c.args.at (Some Missing) c.in-Values.is there

pub returns-in-None : goal.returns-in-None
returns-in-None c =
    let there = ap (slice_get c.in-Values.values) (sym c.place_in.ensures) ∙ sym c.get.ensures ∙ ap option_copied c.in-None.is in
    text-of c.args.blank.now c.args.items.now c.in-Values.values c.args.at None c.in-Values.is there
