use Rattle.std.proofs.Common.{◌≡◌, ◌∙◌, refl, sym, ap, subst, true}
use Rattle.sa_base.specs.Items.{FlagItem}
use Rattle.sa_plain.specs.declared.kind.PlainKind.TheVariants as kinds
use Rattle.sa_plain.specs.Cells.{plain_in}
use Rattle.sa_plain.specs.Plains.{IsPlain, is_of_kind, item_padded}
use Rattle.sa_plain.proofs.PlainLemmas.{after_put, cell_put}
use Rattle.sa_plain.proofs.plain.Plain.put_flag.Goals as goal

same : goal.returns
same c = cell_put kinds.Bool FlagItem (λ b. refl) c.args.self.now c.in-Flags.cells.items c.args.k c.args.to c.args.to (ap plain_in (sym c.in-Flags.is) ∙ c.self.view_is) refl

pub invariant_of-self : goal.invariant_of-self
invariant_of-self c =
    let are = ap plain_in (sym c.in-Flags.is) ∙ c.self.view_is in
    after_put c.args.self.now _ c.args.k (FlagItem c.args.to) (subst IsPlain c.self.view_is c.self.invariant)
    (subst (λ p. is_of_kind p.kind (item_padded p.kind (FlagItem c.args.to)) ≡ true) are refl) (same c)

pub returns : goal.returns
returns c = same c
