use Rattle.sa_loop.proofs.OrderLemmas.{one-order}
use Rattle.sa_loop.proofs.laws.one_order.Goals as goal

pub returns : goal.returns
returns c = one-order
