use Rattle.sa_loop.proofs.HistoryLemmas.{one-history}
use Rattle.sa_loop.proofs.laws.one_history.Goals as goal

pub returns : goal.returns
returns c = one-history
