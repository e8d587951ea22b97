use Rattle.std.proofs.Common.{◌∙◌, ap, sym, refl, false, pos}
use Rattle.sa_base.specs.Items.{IntegerItem, FlagItem, BytesItem, UnitsItem}
use Rattle.sa_plain.specs.declared.kind.PlainKind.TheVariants as kinds
use Rattle.sa_plain.specs.Plains.{opening_plain}
use Rattle.sa_plain.proofs.PlainLemmas.{opening_list, opening_grid}
use Rattle.sa_plain.proofs.plain.opening_cells.Goals as goal

pub returns-in_ok-vec-in-Int : goal.returns-in_ok-vec-in-Int
returns-in_ok-vec-in-Int c =
    opening_list kinds.Int IntegerItem c.args.count c.in_ok-vec-in-Int.field-0.items (pos 0) (c.in_ok-vec-in-Int.ensures.items_if_clones_equal (λ y e. e)) refl
    ∙ ap (λ kind. opening_plain kind c.args.count) (sym c.in-Int.is)

pub returns-in_ok-vec-in-Bool : goal.returns-in_ok-vec-in-Bool
returns-in_ok-vec-in-Bool c =
    opening_list kinds.Bool FlagItem c.args.count c.in_ok-vec-in-Bool.field-0.items false (c.in_ok-vec-in-Bool.ensures.items_if_clones_equal (λ y e. e)) refl
    ∙ ap (λ kind. opening_plain kind c.args.count) (sym c.in-Bool.is)

pub returns-in_ok-cells-in-Bytes : goal.returns-in_ok-cells-in-Bytes
returns-in_ok-cells-in-Bytes c =
    opening_grid kinds.Bytes BytesItem c.args.count c.in-Bytes.width c.from_cells.result c.in_ok-cells-in-Bytes.cells.items c.from_cells.ensures.width c.from_cells.ensures.rows (c.in_ok-cells-in-Bytes.ensures.items_if_clones_equal (λ y e. e))
    ∙ ap (λ kind. opening_plain kind c.args.count) (sym c.in-Bytes.is)

pub returns-in_ok-cells-in-Fixed : goal.returns-in_ok-cells-in-Fixed
returns-in_ok-cells-in-Fixed c =
    opening_grid kinds.Fixed UnitsItem c.args.count c.in-Fixed.width c.from_cells-in-Fixed.result c.in_ok-cells-in-Fixed.cells.items c.from_cells-in-Fixed.ensures.width c.from_cells-in-Fixed.ensures.rows (c.in_ok-cells-in-Fixed.ensures.items_if_clones_equal (λ y e. e))
    ∙ ap (λ kind. opening_plain kind c.args.count) (sym c.in-Fixed.is)
