use Rattle.sa_plain.specs.Cells.{plain_in}
use Rattle.sa_plain.proofs.PlainLemmas.{opened_as}
use Rattle.sa_plain.proofs.plain.Plain.new.Goals as goal

pub invariant_of-result : goal.invariant_of-result
invariant_of-result c = opened_as c.args.kind c.args.len (plain_in c.in_ok-cells.cells) c.requires.width c.requires.few c.in_ok-cells.ensures
