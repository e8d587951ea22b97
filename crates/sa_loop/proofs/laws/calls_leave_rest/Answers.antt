use Rattle.sa_loop.proofs.WorldLemmas.{leaves-rest}
use Rattle.sa_loop.proofs.laws.calls_leave_rest.Goals as goal

pub returns : goal.returns
returns c = leaves-rest
