use Rattle.sa_view.proofs.SliceLemmas.{count_up-none, count_up-some}
use Rattle.sa_view.proofs.steps.steps_below.Goals as goal

pub returns-then-low-high : goal.returns-then-low-high
returns-then-low-high c = λ n room. count_up-some n c.args.low c.args.high c.args.stride c.requires c.if-low-high.true room

pub returns-else-low-high : goal.returns-else-low-high
returns-else-low-high c = λ n room. count_up-none n c.args.low c.args.high c.args.stride c.if-low-high.false
