use Rattle.std.proofs.Common.{◌∙◌, ◌+◌, ◌*◌, ap, ap₂, sym}
use Rattle.sa_plain.specs.Items.{items_weight}
use Rattle.sa_plain.proofs.WeightLemmas.{bytes_weight, units_weight}
use Rattle.sa_plain.proofs.items.Items.weight.Goals as goal

pub returns-in-Bytes-clause-weight : goal.returns-in-Bytes-clause-weight
returns-in-Bytes-clause-weight c = ap₂ (λ n m. 16 * n + m) c.len-in-Bytes.ensures c.count_cells.ensures.count ∙ bytes_weight c.in-Bytes.rows ∙ ap items_weight (sym c.in-Bytes.is)

pub returns-in-Units-clause-weight : goal.returns-in-Units-clause-weight
returns-in-Units-clause-weight c = ap₂ (λ n m. 16 * n + 4 * m) c.len-in-Units.ensures c.count_cells-in-Units.ensures.count ∙ units_weight c.in-Units.rows ∙ ap items_weight (sym c.in-Units.is)
