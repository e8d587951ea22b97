use Rattle.sa_pred.proofs.OrderLemmas.{bytes_order}
use Rattle.sa_pred.proofs.order.bytes_order_texts.Goals as goal

pub returns : goal.returns
returns c = bytes_order
