use Rattle.std.proofs.Common.{◌≡◌, ◌∙◌, refl, sym, ap, subst, true, w64}
use Rattle.std.proofs.lemmas.Int.{to_z-of_z}
use Rattle.sa_base.specs.Items.{IntegerItem}
use Rattle.sa_plain.specs.declared.kind.PlainKind.TheVariants as kinds
use Rattle.sa_plain.specs.Cells.{plain_in}
use Rattle.sa_plain.specs.Plains.{IsPlain, is_of_kind, item_padded}
use Rattle.sa_plain.proofs.PlainLemmas.{after_put, cell_put, i64_is}
use Rattle.sa_plain.proofs.plain.Plain.put_int.Goals as goal

same : goal.returns
same c = cell_put kinds.Int IntegerItem (λ n. refl) c.args.self.now c.in-Ints.cells.items c.args.k c.args.to _ (ap plain_in (sym c.in-Ints.is) ∙ c.self.view_is) (to_z-of_z w64 c.args.to c.ranges.to)

pub invariant_of-self : goal.invariant_of-self
invariant_of-self c =
    let are = ap plain_in (sym c.in-Ints.is) ∙ c.self.view_is in
    after_put c.args.self.now _ c.args.k (IntegerItem c.args.to) (subst IsPlain c.self.view_is c.self.invariant)
    (subst (λ p. is_of_kind p.kind (item_padded p.kind (IntegerItem c.args.to)) ≡ true) are (i64_is c.args.to c.ranges.to)) (same c)

pub returns : goal.returns
returns c = same c
