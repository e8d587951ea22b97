use Rattle.sa_alloc.proofs.TidyLemmas.{tidy-keeps}
use Rattle.sa_alloc.proofs.laws.tidies_keep_values.Goals as goal

pub returns : goal.returns
returns c = tidy-keeps
