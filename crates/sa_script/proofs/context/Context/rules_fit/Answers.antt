use Rattle.std.proofs.Common.{◌<◌, ℕ, List, length, sym, ap, ◌∙◌, subst, not}
use Rattle.std.specs.List.{All}
use Rattle.std.specs.Option.{is_some}
use Rattle.sa_descr.specs.declared.descr.Descr.{Descr}
use Rattle.sa_script.specs.Contexts.{declared_in}
use Rattle.sa_call.proofs.RuleLemmas.{homes-few}
use Rattle.sa_script.proofs.ClashLemmas.{homes-known}
use Rattle.sa_script.proofs.context.Context.rules_fit.Goals as goal

pub combine-requires-clause-known : goal.combine-requires-clause-known
combine-requires-clause-known c =
    let d = declared_in c.args.self.now in
    let homes : List ℕ = c.as_slice-2.result.now in
    let same = c.as_slice-2.ensures.value ∙ c.in_ok-homes.ensures in
    let known = homes-known d c.args.call.now c.requires.sound.sound.declared c.requires.meant in
    subst (λ (ds : List Descr). All (λ (n : ℕ). n < length ds) homes) (sym c.as_slice.ensures) (subst (All (λ (n : ℕ). n < length d.descrs)) (sym same) known)

pub combine-requires-clause-few : goal.combine-requires-clause-few
combine-requires-clause-few c =
    let d = declared_in c.args.self.now in
    let same = c.as_slice-2.ensures.value ∙ c.in_ok-homes.ensures in
    let given = sym (ap is_some c.form.ensures.group) ∙ c.is_none.ensures ∙ ap not c.if-is_none.false in
    subst (λ (homes : List ℕ). length homes < 4294967296) (sym same) (homes-few d c.args.call.now given c.requires.meant.sorts)
