use Rattle.std.proofs.Common.{rules, ◌≡◌, sym, ap, ◌∙◌, ℕ, Option, Ok}
use Rattle.sa_descr.specs.Rules.{combination, rules_of, chosen_or}
use Rattle.sa_descr.proofs.RuleLemmas.{combination-none, combination-some}
use Rattle.sa_descr.proofs.combination.combine.Goals as goal

pub returns-in_default : goal.returns-in_default
returns-in_default c = combination-none c.args.table.now c.args.numbers.now (sym c.first_given.ensures ∙ c.in_default.is)

pub returns-in-Some-first_clash : goal.returns-in-Some-first_clash
returns-in-Some-first_clash c =
    combination-some c.args.table.now c.args.numbers.now c.in-Some.first c.rule_of-rule.result.now (sym c.first_given.ensures ∙ c.in-Some.is) c.rule_of-rule.ensures
    ∙ ap (λ (second : Option ℕ). chosen_or c.rule_of-rule.result.now c.in-Some.first second) (sym c.first_clash.ensures ∙ c.in-Some-first_clash.is)

pub returns-in-None : goal.returns-in-None
returns-in-None c =
    let e : combination (rules_of c.args.table.now c.args.numbers.now) ≡ Ok c.rule_of-rule.result.now =
    combination-some c.args.table.now c.args.numbers.now c.in-Some.first c.rule_of-rule.result.now (sym c.first_given.ensures ∙ c.in-Some.is) c.rule_of-rule.ensures
    ∙ ap (λ (second : Option ℕ). chosen_or c.rule_of-rule.result.now c.in-Some.first second) (sym c.first_clash.ensures ∙ c.in-None.is) in
    rw e (search rules)
