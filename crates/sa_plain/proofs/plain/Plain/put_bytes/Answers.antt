use Rattle.std.proofs.Common.{◌≡◌, ◌≤◌, ◌∙◌, refl, sym, ap, subst, length, true}
use Rattle.sa_base.specs.Items.{BytesItem}
use Rattle.sa_plain.specs.declared.kind.PlainKind.TheVariants as kinds
use Rattle.sa_plain.specs.Cells.{plain_in}
use Rattle.sa_plain.specs.Plains.{IsPlain, width_of, is_of_kind, item_padded}
use Rattle.sa_plain.proofs.PlainLemmas.{after_put, grid_put, bytes_fit}
use Rattle.sa_plain.proofs.plain.Plain.put_bytes.Goals as goal

same : goal.returns
same c = grid_put kinds.Bytes BytesItem (λ w to. refl) c.args.self.now c.in-Bytes.grid c.put.new.self c.args.k c.args.to.now (ap plain_in (sym c.in-Bytes.is) ∙ c.self.view_is) c.put.ensures.width c.put.ensures.rows

pub invariant_of-self : goal.invariant_of-self
invariant_of-self c =
    let are = ap plain_in (sym c.in-Bytes.is) ∙ c.self.view_is in
    let fits = subst (λ p. length c.args.to.now ≤ width_of p.kind) (sym are) c.requires.fits in
    let of_kind = bytes_fit c.in-Bytes.grid.0 c.args.to.now fits c.type_inv.to in
    after_put c.args.self.now _ c.args.k (BytesItem c.args.to.now) (subst IsPlain c.self.view_is c.self.invariant)
    (subst (λ p. is_of_kind p.kind (item_padded p.kind (BytesItem c.args.to.now)) ≡ true) are of_kind) (same c)

pub returns : goal.returns
returns c = same c
