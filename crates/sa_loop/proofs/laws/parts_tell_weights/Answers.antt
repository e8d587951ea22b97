use Rattle.sa_loop.proofs.PartLemmas.{parts-tell}
use Rattle.sa_loop.proofs.laws.parts_tell_weights.Goals as goal

pub returns : goal.returns
returns c = parts-tell
