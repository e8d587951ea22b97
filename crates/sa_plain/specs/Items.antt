-- Items of one kind, their number and their weight, and the items that they are.
use Rattle.std.specs.Prelude.{ℕ, ◌+◌, ◌*◌, List, [], length, map, sum_by, Option, Some, None}
use Rattle.sa_base.specs.Items.{Item, MissingItem, TextItem, IntegerItem, FlagItem, BytesItem, UnitsItem}
use Rattle.sa_text.specs.Texts.{text_size}
use Rattle.sa_text.specs.Values.{weight_of, item_of}
use Rattle.sa_text.specs.declared.value.Value.{Value}
use Rattle.sa_plain.specs.declared.items.Items.{Items}
use Rattle.sa_plain.specs.declared.items.Items.TheVariants.{Values, Ints, Flags, Bytes, Units}
pub use Rattle.sa_plain.specs.Widths.{most_width}

-- what an item weighs: 16, and the bytes of its text, its bytes, or four for each of its units
abbrev pub item_weight : Item → ℕ
item_weight MissingItem = 16
item_weight (TextItem text) = 16 + text_size text
item_weight (IntegerItem n) = 16
item_weight (FlagItem b) = 16
item_weight (BytesItem bytes) = 16 + length bytes
item_weight (UnitsItem units) = 16 + 4 * length units

-- how many items there are
abbrev pub count_of : Items → ℕ
count_of (Values values) = length values
count_of (Ints numbers) = length numbers
count_of (Flags flags) = length flags
count_of (Bytes rows) = length rows
count_of (Units rows) = length rows

-- what the items weigh: 16 each, and the bytes of texts, bytes, or four for each unit
abbrev pub items_weight : Items → ℕ
items_weight (Values values) = weight_of values
items_weight (Ints numbers) = 16 * length numbers
items_weight (Flags flags) = 16 * length flags
items_weight (Bytes rows) = sum_by (λ bytes. 16 + length bytes) rows
items_weight (Units rows) = sum_by (λ units. 16 + 4 * length units) rows

-- the items as plain data
abbrev pub items_of : Items → List Item
items_of (Values values) = map item_of values
items_of (Ints numbers) = map (λ n. IntegerItem n) numbers
items_of (Flags flags) = map (λ b. FlagItem b) flags
items_of (Bytes rows) = map (λ bytes. BytesItem bytes) rows
items_of (Units rows) = map (λ units. UnitsItem units) rows

-- the values; items of another kind have none
abbrev pub values_in : Items → Option (List Value)
values_in (Values values) = Some values
values_in (Ints numbers) = None
values_in (Flags flags) = None
values_in (Bytes rows) = None
values_in (Units rows) = None

abbrev pub values_of : Items → List Value
values_of (Values values) = values
values_of (Ints numbers) = []
values_of (Flags flags) = []
values_of (Bytes rows) = []
values_of (Units rows) = []
