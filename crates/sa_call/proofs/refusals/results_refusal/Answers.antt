use Rattle.std.proofs.Common.{◌≡◌, None, sym, subst, arith}
use Rattle.sa_plain.specs.Items.{items_of}
use Rattle.sa_call.specs.Refusals.{refused}
use Rattle.sa_call.proofs.PartLemmas.{weight-items}
use Rattle.sa_call.proofs.RefusalLemmas.{light-none, none-missing}
use Rattle.sa_call.proofs.refusals.results_refusal.Goals as goal

pub returns-then-is_without_missing : goal.returns-then-is_without_missing
returns-then-is_without_missing c =
    let weighs = c.weight.ensures.weight in
    let same = weight-items c.args.results.now in
    sym (none-missing c.args.forbidden c.args.weight 0 (items_of c.args.results.now) (c.is_without_missing.ensures c.if-is_without_missing.true) (omega arith))

pub returns-then-not-forbidden : goal.returns-then-not-forbidden
returns-then-not-forbidden c =
    let is = items_of c.args.results.now in
    let weighs = c.weight.ensures.weight in
    let same = weight-items c.args.results.now in
    subst (λ b. None ≡ refused b c.args.weight 0 is) (sym c.if-not-forbidden.true) (sym (light-none c.args.weight 0 is (omega arith)))
