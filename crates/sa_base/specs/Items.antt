-- Items of arrays as plain data, whatever holds them.
use Rattle.std.specs.Prelude.{ℕ, ℤ, Bool, List}

-- A missing value, a text by its code points, an integer, a flag, the bytes of a bytes item, or the units of a fixed item.
pub data Item : Type 0 where
  MissingItem : Item
  TextItem : List ℕ → Item
  IntegerItem : ℤ → Item
  FlagItem : Bool → Item
  BytesItem : List ℕ → Item
  UnitsItem : List ℕ → Item
