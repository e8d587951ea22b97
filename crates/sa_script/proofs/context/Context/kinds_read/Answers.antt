use Rattle.std.proofs.Common.{sym, ◌∙◌}
use Rattle.sa_script.specs.Contexts.{declared_in}
use Rattle.sa_script.proofs.KindLemmas.{kinds_skip}
use Rattle.sa_script.proofs.context.Context.kinds_read.Goals as goal

pub sorts-preserved-then-not-is_operand : goal.sorts-preserved-then-not-is_operand
sorts-preserved-then-not-is_operand c =
    kinds_skip (declared_in c.args.self.now) c.args.sorts.now c.sorts.sort-index _ c.sorts.rest.now c.sorts-test.true (sym c.is_operand.ensures ∙ c.if-not-is_operand.true) ∙ c.sorts.invariant
