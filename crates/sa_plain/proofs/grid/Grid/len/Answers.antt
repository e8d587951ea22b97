use Rattle.std.proofs.Common.{◌∙◌, ap, sym, length}
use Rattle.sa_plain.proofs.GridLemmas.{length-rows}
use Rattle.sa_plain.proofs.grid.Grid.len.Goals as goal

pub returns : goal.returns
returns g c = sym (length-rows c.self.inside.count c.self.inside.width c.self.inside.cells.items) ∙ ap (λ p. length p.1) c.self.view_is
