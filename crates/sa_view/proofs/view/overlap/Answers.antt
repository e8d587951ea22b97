use Rattle.std.proofs.Common.{◌∙◌, sym, ap, arith}
use Rattle.sa_view.specs.Views.{names}
use Rattle.sa_view.proofs.ViewLemmas.{overlap-at, overlap-nowhere}
use Rattle.sa_view.proofs.view.overlap.Goals as goal

pub returns-then-names : goal.returns-then-names
returns-then-names c = sym (overlap-at c.args.a.now c.args.b.now c.loop-k.k (omega arith) c.loop-k-test.true (ap (names c.args.b.now) (sym c.place.ensures) ∙ (sym c.names.ensures ∙ c.if-names.true)))

pub returns : goal.returns
returns c = sym (overlap-nowhere c.args.a.now c.args.b.now (λ k h. c.loop-k.invariant k (omega arith)))
