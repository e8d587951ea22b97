use Rattle.std.proofs.Common.{sym, ◌∙◌, ◌-◌, ◌%◌}
use Rattle.std.proofs.lemmas.Bool.{ne_eqb}
use Rattle.sa_view.proofs.SliceLemmas.{reaches-not_down, reaches-not_over, reaches-within}
use Rattle.sa_view.proofs.steps.reaches.Goals as goal

pub returns-then-high-low : goal.returns-then-high-low
returns-then-high-low c = sym (reaches-not_down c.args.low c.args.high c.args.stride c.args.count c.if-high-low.true)

pub returns-then-far-stride-eq0 : goal.returns-then-far-stride-eq0
returns-then-far-stride-eq0 c = reaches-within c.args.low c.args.high c.args.stride c.args.count c.requires c.if-high-low.false c.if-far-stride-eq0.true

pub returns-else-far-stride-eq0 : goal.returns-else-far-stride-eq0
returns-else-far-stride-eq0 c = ne_eqb ((c.args.high - c.args.low) % c.args.stride) 0 c.if-far-stride-eq0.false ∙ sym (reaches-not_over c.args.low c.args.high c.args.stride c.args.count c.if-high-low.false c.if-far-stride-eq0.false)
