use Rattle.sa_lines.proofs.QuotedLemmas.{quoted_again}
use Rattle.sa_lines.proofs.laws.quoted_again.Goals as goal

pub returns : goal.returns
returns c = quoted_again
