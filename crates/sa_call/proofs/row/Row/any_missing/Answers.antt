use Rattle.std.proofs.Common.{ap, ◌∙◌}
use Rattle.sa_call.specs.Elements.{any_missing}
use Rattle.sa_call.proofs.RowLemmas.{any-items}
use Rattle.sa_call.proofs.row.Row.any_missing.Goals as goal

pub returns : goal.returns
returns c = c.any_missing_at.ensures ∙ any-items (λ r. r.now) c.self.inside.at c.self.inside.columns.now ∙ ap any_missing c.self.view_is
