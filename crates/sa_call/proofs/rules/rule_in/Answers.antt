use Rattle.std.proofs.Common.{◌<◌, ℕ, List, length, ap, sym, ◌∙◌, subst, arith}
use Rattle.std.specs.List.{All}
use Rattle.sa_descr.specs.declared.descr.Descr.{Descr}
use Rattle.sa_call.proofs.RuleLemmas.{call-homes, homes-few}
use Rattle.sa_call.proofs.rules.rule_in.Goals as goal

pub combine-requires-clause-known : goal.combine-requires-clause-known
combine-requires-clause-known c =
    let d = c.args.decls.now in
    let homes : List ℕ = c.as_slice.result.now in
    let same = c.as_slice.ensures.value ∙ c.in_ok-homes.ensures in
    let known = call-homes d c.args.call.now c.requires.declared c.requires.call in
    subst (λ (ds : List Descr). All (λ (n : ℕ). n < length ds) homes) (sym c.descrs.ensures) (subst (All (λ (n : ℕ). n < length d.descrs)) (sym same) known)

pub combine-requires-clause-few : goal.combine-requires-clause-few
combine-requires-clause-few c =
    let d = c.args.decls.now in
    let call = c.args.call.now in
    let same = ap length (c.as_slice.ensures.value ∙ c.in_ok-homes.ensures) in
    let few = homes-few d call c.requires.group c.requires.call.sorts in
    omega arith
