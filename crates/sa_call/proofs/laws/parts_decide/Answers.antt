use Rattle.sa_call.proofs.DecideLemmas.{items-decide}
use Rattle.sa_call.proofs.laws.parts_decide.Goals as goal

pub returns : goal.returns
returns c = items-decide
