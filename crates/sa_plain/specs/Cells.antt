-- Where the items of a plain array stand: this project's own layout.
use Rattle.std.specs.Prelude.{map}
use Rattle.sa_base.specs.Items.{IntegerItem, FlagItem, BytesItem, UnitsItem}
use Rattle.sa_plain.specs.declared.kind.PlainKind.TheVariants as kinds
use Rattle.sa_plain.specs.declared.plain.Cells.{Cells}
use Rattle.sa_plain.specs.declared.plain.Cells.TheVariants.{Ints, Flags, Bytes, Units}
use Rattle.sa_plain.specs.Plains.{PlainValue}

-- the array that the cells are
abbrev pub plain_in : Cells → PlainValue
plain_in (Ints cells) = record { kind = kinds.Int; items = map (λ n. IntegerItem n) cells.items }
plain_in (Flags cells) = record { kind = kinds.Bool; items = map (λ b. FlagItem b) cells.items }
plain_in (Bytes grid) = record { kind = kinds.Bytes grid.0; items = map (λ bytes. BytesItem bytes) grid.1 }
plain_in (Units grid) = record { kind = kinds.Fixed grid.0; items = map (λ units. UnitsItem units) grid.1 }
