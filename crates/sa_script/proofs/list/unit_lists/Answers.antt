use Rattle.std.proofs.Common.{Some, sym, ap, ◌∙◌}
use Rattle.sa_script.proofs.RunLemmas.{units_narrow}
use Rattle.sa_script.proofs.list.unit_lists.Goals as goal

pub rows_of-requires : goal.rows_of-requires
rows_of-requires c = units_narrow c.args.token.now c.in-Some-Some.texts (sym c.in_ok-list_as.ensures ∙ c.in-Some-Some.is ∙ ap Some c.in-Some-Some.field-0-is)
