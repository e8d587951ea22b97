use Rattle.std.proofs.Common.{Some, None, slice_get, leb, sym, ap, ap₂, ◌∙◌}
use Rattle.std.specs.Option.{option_copied}
use Rattle.sa_call.proofs.RowLemmas.{missing-of, missing-others}
use Rattle.sa_call.proofs.row.is_missing_at.Goals as goal

pub returns-in_default : goal.returns-in_default
returns-in_default c = ap₂ leb c.len.ensures c.place_in.ensures ∙ missing-others c.args.items.now c.args.at c.in_default.not-Values

pub returns-in-Some : goal.returns-in-Some
returns-in-Some c =
    let there = ap (slice_get c.in-Values.values) (sym c.place_in-2.ensures) ∙ sym c.get.ensures ∙ ap option_copied c.in-Some.is in
    c.is_missing.ensures ∙ missing-of c.args.items.now c.in-Values.values c.args.at (Some c.in-Some.value.now) c.in-Values.is there

pub returns-in-None : goal.returns-in-None
returns-in-None c =
    let there = ap (slice_get c.in-Values.values) (sym c.place_in-2.ensures) ∙ sym c.get.ensures ∙ ap option_copied c.in-None.is in
    missing-of c.args.items.now c.in-Values.values c.args.at None c.in-Values.is there
