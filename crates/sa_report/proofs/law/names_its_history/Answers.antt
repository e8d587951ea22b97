use Rattle.sa_report.proofs.NamingLemmas.{names_again}
use Rattle.sa_report.proofs.law.names_its_history.Goals as goal

pub returns : goal.returns
returns c = names_again c.lines_again.ensures c.tokens_again.ensures c.strict_again.ensures.alone c.strict_again.ensures.in_front
