use Rattle.sa_lines.proofs.NumberLaws.{decimal_again}
use Rattle.sa_lines.proofs.laws.decimal_again.Goals as goal

pub returns : goal.returns
returns c = decimal_again
