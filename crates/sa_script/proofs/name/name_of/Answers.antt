use Rattle.std.proofs.Common.{sym, ◌∙◌}
use Rattle.sa_script.proofs.NameLemmas.{name_is_utf8}
use Rattle.sa_script.proofs.name.name_of.Goals as goal

pub unreachable-requires : goal.unreachable-requires
unreachable-requires c = c.in-Err.ensures.cases.0 (name_is_utf8 c.args.token.now (sym c.is_name.ensures ∙ c.if-not-is_name.false))
