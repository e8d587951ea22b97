use Rattle.sa_search.proofs.FirstLemmas.{counts, replaces}
use Rattle.sa_search.proofs.firsts.takes_first.Goals as goal

pub returns-clause-counts : goal.returns-clause-counts
returns-clause-counts c = counts

pub returns-clause-replaces : goal.returns-clause-replaces
returns-clause-replaces c = replaces
