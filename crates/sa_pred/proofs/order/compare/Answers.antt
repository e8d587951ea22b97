use Rattle.std.proofs.Common.{ap₂, ◌∙◌}
use Rattle.std.specs.Cmp.Lexicographic.{slice_cmp}
use Rattle.std.specs.Ordering.{nat_cmp}
use Rattle.sa_pred.proofs.OrderLemmas.{bytes_order}
use Rattle.sa_pred.proofs.order.compare.Goals as goal

pub returns : goal.returns
returns c = c.cmp.ensures ∙ ap₂ (slice_cmp nat_cmp) c.as_bytes.ensures.bytes c.as_bytes-2.ensures.bytes ∙ bytes_order c.args.a.now c.args.b.now
