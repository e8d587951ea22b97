use Rattle.std.proofs.Common.{◌∙◌, ap, sym, map, get_or, pos, false, []}
use Rattle.sa_base.specs.Items.{IntegerItem, FlagItem, BytesItem, UnitsItem}
use Rattle.sa_plain.specs.declared.kind.PlainKind.TheVariants as kinds
use Rattle.sa_plain.specs.Cells.{plain_in}
use Rattle.sa_plain.proofs.PlainLemmas.{items_found}
use Rattle.sa_plain.proofs.plain.Plain.items_at.Goals as goal

pub returns-in_ok-cells_at-in-Ints-clause-items : goal.returns-in_ok-cells_at-in-Ints-clause-items
returns-in_ok-cells_at-in-Ints-clause-items c =
    items_found kinds.Int IntegerItem c.in-Ints.cells.items c.in_ok-cells_at-in-Ints.field-0 (pos 0) c.args.places.now c.args.self.now (ap plain_in (sym c.in-Ints.is) ∙ c.self.view_is) c.requires (c.in_ok-cells_at-in-Ints.ensures (pos 0) ∙ ap (λ cells. map (λ k. get_or cells k (pos 0)) c.args.places.now) c.as_slice.ensures.value)

pub returns-in_ok-cells_at-in-Flags-clause-items : goal.returns-in_ok-cells_at-in-Flags-clause-items
returns-in_ok-cells_at-in-Flags-clause-items c =
    items_found kinds.Bool FlagItem c.in-Flags.cells.items c.in_ok-cells_at-in-Flags.field-0 false c.args.places.now c.args.self.now (ap plain_in (sym c.in-Flags.is) ∙ c.self.view_is) c.requires (c.in_ok-cells_at-in-Flags.ensures false ∙ ap (λ cells. map (λ k. get_or cells k false) c.args.places.now) c.as_slice-in-Flags.ensures.value)

pub returns-in_ok-rows_at-in-Bytes-clause-items : goal.returns-in_ok-rows_at-in-Bytes-clause-items
returns-in_ok-rows_at-in-Bytes-clause-items c =
    items_found (kinds.Bytes c.in-Bytes.grid.0) BytesItem c.in-Bytes.grid.1 c.in_ok-rows_at-in-Bytes.field-0 [] c.args.places.now c.args.self.now (ap plain_in (sym c.in-Bytes.is) ∙ c.self.view_is) c.requires c.in_ok-rows_at-in-Bytes.ensures.value

pub returns-in_ok-rows_at-in-Units-clause-items : goal.returns-in_ok-rows_at-in-Units-clause-items
returns-in_ok-rows_at-in-Units-clause-items c =
    items_found (kinds.Fixed c.in-Units.grid.0) UnitsItem c.in-Units.grid.1 c.in_ok-rows_at-in-Units.field-0 [] c.args.places.now c.args.self.now (ap plain_in (sym c.in-Units.is) ∙ c.self.view_is) c.requires c.in_ok-rows_at-in-Units.ensures.value
