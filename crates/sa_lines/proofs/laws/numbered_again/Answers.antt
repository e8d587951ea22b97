use Rattle.sa_lines.proofs.QuotedLemmas.{numbered_again}
use Rattle.sa_lines.proofs.laws.numbered_again.Goals as goal

pub returns : goal.returns
returns c = numbered_again
