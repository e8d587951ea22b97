use Rattle.std.proofs.Common.{ℕ, List, map, ap, sym, ◌∙◌}
use Rattle.std.proofs.lemmas.List.{take_all}
use Rattle.sa_plain.specs.declared.kind.PlainKind.{PlainKind}
use Rattle.sa_plain.specs.Plains.{opening_plain}
use Rattle.sa_hall.proofs.WriteLemmas.{opening_plains}
use Rattle.sa_hall.proofs.domain.opening_plains.Goals as goal

pub returns : goal.returns
returns c =
    c.loop-kind.invariant ∙ ap (λ (ps : List (PlainKind × ℕ)). map (λ (p : PlainKind × ℕ). opening_plain p.0 p.1) ps) (take_all c.loop-kind.kind-index c.args.plains.now c.loop-kind-test.false)
    ∙ sym (opening_plains c.args.plains.now)
