use Rattle.sa_lines.proofs.LawLemmas.{tokens_again}
use Rattle.sa_lines.proofs.laws.tokens_again.Goals as goal

pub returns : goal.returns
returns c = tokens_again
