use Rattle.std.proofs.Common.{sym, ◌∙◌}
use Rattle.sa_script.proofs.KindLemmas.{any_stretched}
use Rattle.sa_script.proofs.kinds.any_missing.Goals as goal

pub returns-then-not-is_empty : goal.returns-then-not-is_empty
returns-then-not-is_empty c =
    c.any_missing_in.ensures ∙ sym (any_stretched c.args.values.now c.as_slice.result.now c.as_slice.ensures (sym c.is_empty.ensures ∙ c.if-not-is_empty.true))
