use Rattle.sa_lines.proofs.LawLemmas.{lines_again}
use Rattle.sa_lines.proofs.laws.lines_again.Goals as goal

pub returns : goal.returns
returns c = lines_again
