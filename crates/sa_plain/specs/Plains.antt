-- Plain arrays (NumPy's int64, bool, S and U arrays) as a kind and a list of items.
use Rattle.std.specs.Prelude.{◌≡◌, ◌≤◌, ◌<◌, ◌-◌, ◌^◌, ◌++◌, ◌&&◌, ◌==◌, ℕ, ℤ, pos, negsuc, Bool, true, false, List, length, map, replicate, fold, zip, All, nat_lt, slice_index_or, slice_set}
use Rattle.std.specs.List.{list_all}
use Rattle.sa_base.specs.Items.{Item, MissingItem, TextItem, IntegerItem, FlagItem, BytesItem, UnitsItem}
use Rattle.sa_plain.specs.Items.{count_of, most_width}
use Rattle.sa_plain.specs.declared.items.Items.{Items}
use Rattle.sa_plain.specs.declared.items.Items.TheVariants as lists
use Rattle.sa_plain.specs.declared.kind.PlainKind.{PlainKind}
use Rattle.sa_plain.specs.declared.kind.PlainKind.TheVariants as kinds

-- the most places of an array: a limit of this project
abbrev pub most_cells : ℕ
most_cells = 8192

-- a plain array: its kind, and its items in order
pub record PlainValue : Type 0 where
  pub kind : PlainKind
  pub items : List Item

-- the item is an integer
abbrev pub is_int : Item → Bool
is_int MissingItem = false
is_int (TextItem text) = false
is_int (IntegerItem n) = true
is_int (FlagItem b) = false
is_int (BytesItem bytes) = false
is_int (UnitsItem units) = false

-- the item is a flag
abbrev pub is_flag : Item → Bool
is_flag MissingItem = false
is_flag (TextItem text) = false
is_flag (IntegerItem n) = false
is_flag (FlagItem b) = true
is_flag (BytesItem bytes) = false
is_flag (UnitsItem units) = false

-- the item is a byte text of a fixed width
abbrev pub is_bytes : Item → Bool
is_bytes MissingItem = false
is_bytes (TextItem text) = false
is_bytes (IntegerItem n) = false
is_bytes (FlagItem b) = false
is_bytes (BytesItem bytes) = true
is_bytes (UnitsItem units) = false

-- the item is a unicode text of a fixed width
abbrev pub is_units : Item → Bool
is_units MissingItem = false
is_units (TextItem text) = false
is_units (IntegerItem n) = false
is_units (FlagItem b) = false
is_units (BytesItem bytes) = false
is_units (UnitsItem units) = true

-- the width of a kind: in bytes, in code points, or 0 where it has none
abbrev pub width_of : PlainKind → ℕ
width_of kinds.Int = 0
width_of kinds.Bool = 0
width_of (kinds.Bytes width) = width
width_of (kinds.Fixed width) = width

-- a width is from 1 to 256
abbrev pub IsWidth : ℕ → Type 0
IsWidth width = (1 ≤ width) × (width ≤ most_width)

-- the width of a kind that has one is from 1 to 256
abbrev pub HasWidth : PlainKind → Type 0
HasWidth kinds.Int = Unit {0}
HasWidth kinds.Bool = Unit {0}
HasWidth (kinds.Bytes width) = IsWidth width
HasWidth (kinds.Fixed width) = IsWidth width

-- the kind is that of an array of integers, of flags, of byte texts, of unicode texts
abbrev pub holds_ints : PlainKind → Bool
holds_ints kinds.Int = true
holds_ints kinds.Bool = false
holds_ints (kinds.Bytes width) = false
holds_ints (kinds.Fixed width) = false

abbrev pub holds_flags : PlainKind → Bool
holds_flags kinds.Int = false
holds_flags kinds.Bool = true
holds_flags (kinds.Bytes width) = false
holds_flags (kinds.Fixed width) = false

abbrev pub holds_bytes : PlainKind → Bool
holds_bytes kinds.Int = false
holds_bytes kinds.Bool = false
holds_bytes (kinds.Bytes width) = true
holds_bytes (kinds.Fixed width) = false

abbrev pub holds_units : PlainKind → Bool
holds_units kinds.Int = false
holds_units kinds.Bool = false
holds_units (kinds.Bytes width) = false
holds_units (kinds.Fixed width) = true

-- the integer is from -2^63 to 2^63 - 1
abbrev pub is_i64 : ℤ → Bool
is_i64 (pos n) = nat_lt n (2 ^ 63)
is_i64 (negsuc n) = nat_lt n (2 ^ 63)

-- the item is an integer that is an i64
abbrev pub is_i64_item : Item → Bool
is_i64_item MissingItem = false
is_i64_item (TextItem text) = false
is_i64_item (IntegerItem n) = is_i64 n
is_i64_item (FlagItem b) = false
is_i64_item (BytesItem bytes) = false
is_i64_item (UnitsItem units) = false

-- the item is a byte text of just this width
abbrev pub is_bytes_of : ℕ → Item → Bool
is_bytes_of width MissingItem = false
is_bytes_of width (TextItem text) = false
is_bytes_of width (IntegerItem n) = false
is_bytes_of width (FlagItem b) = false
is_bytes_of width (BytesItem bytes) = (length bytes == width) && list_all (λ byte. nat_lt byte 256) bytes
is_bytes_of width (UnitsItem units) = false

-- a unit of a unicode text of a fixed width: a number of 32 bits (NumPy's U; no other test is made of it)
abbrev pub is_unit : ℕ → Bool
is_unit unit = nat_lt unit (2 ^ 32)

-- the item is a unicode text of just this width
abbrev pub is_units_of : ℕ → Item → Bool
is_units_of width MissingItem = false
is_units_of width (TextItem text) = false
is_units_of width (IntegerItem n) = false
is_units_of width (FlagItem b) = false
is_units_of width (BytesItem bytes) = false
is_units_of width (UnitsItem units) = (length units == width) && list_all is_unit units

-- an array of the kind may hold the item
abbrev pub is_of_kind : PlainKind → Item → Bool
is_of_kind kinds.Int item = is_i64_item item
is_of_kind kinds.Bool item = is_flag item
is_of_kind (kinds.Bytes width) item = is_bytes_of width item
is_of_kind (kinds.Fixed width) item = is_units_of width item

-- the value is a plain array: of a width that there is, with at most so many places, each with an item of the kind
pub record IsPlain (p : PlainValue) : Type 0 where
  pub width : HasWidth p.kind
  pub few : length p.items ≤ most_cells
  pub all : list_all (is_of_kind p.kind) p.items ≡ true

-- the list with zeros behind it, up to the width
abbrev pub padded : ℕ → List ℕ → List ℕ
padded width xs = xs ++ replicate (width - length xs) 0

-- what a new array of the kind holds at each place
abbrev pub zero_item : PlainKind → Item
zero_item kinds.Int = IntegerItem (pos 0)
zero_item kinds.Bool = FlagItem false
zero_item (kinds.Bytes width) = BytesItem (replicate width 0)
zero_item (kinds.Fixed width) = UnitsItem (replicate width 0)

-- a new array
abbrev pub opening_plain : PlainKind → ℕ → PlainValue
opening_plain kind len = record { kind = kind; items = replicate len (zero_item kind) }

-- the item at a place; missing out of range
abbrev pub item_at : PlainValue → ℕ → Item
item_at p k = slice_index_or p.items k MissingItem

-- the items at places, in order
abbrev pub items_at : PlainValue → List ℕ → List Item
items_at p places = map (item_at p) places

-- the array with another item at a place
abbrev pub with_item : PlainValue → ℕ → Item → PlainValue
with_item p k item = record { kind = p.kind; items = slice_set p.items k item }

-- a text of the width, made of the bytes and the code points of an item; another item is as it is
abbrev pub padded_item : ℕ → Item → Item
padded_item width MissingItem = MissingItem
padded_item width (TextItem text) = TextItem text
padded_item width (IntegerItem n) = IntegerItem n
padded_item width (FlagItem b) = FlagItem b
padded_item width (BytesItem bytes) = BytesItem (padded width bytes)
padded_item width (UnitsItem units) = UnitsItem (padded width units)

-- the item as an array of the kind holds it: bytes and units with zeros behind them
abbrev pub item_padded : PlainKind → Item → Item
item_padded kind item = padded_item (width_of kind) item

-- the array after a put of an item at a place
abbrev pub put_item : PlainValue → ℕ → Item → PlainValue
put_item p k item = with_item p k (item_padded p.kind item)

-- the array after puts of items at places, in order
abbrev pub put_items : PlainValue → List ℕ → List Item → PlainValue
put_items p places items = fold (λ q put. put_item q put.0 put.1) p (zip places items)

-- the items are those of the kind's arrays, and none is wider
abbrev pub FitKind : PlainKind → Items → Type 0
FitKind kinds.Int (lists.Values values) = ⊥
FitKind kinds.Int (lists.Ints numbers) = Unit {0}
FitKind kinds.Int (lists.Flags flags) = ⊥
FitKind kinds.Int (lists.Bytes rows) = ⊥
FitKind kinds.Int (lists.Units rows) = ⊥
FitKind kinds.Bool (lists.Values values) = ⊥
FitKind kinds.Bool (lists.Ints numbers) = ⊥
FitKind kinds.Bool (lists.Flags flags) = Unit {0}
FitKind kinds.Bool (lists.Bytes rows) = ⊥
FitKind kinds.Bool (lists.Units rows) = ⊥
FitKind (kinds.Bytes width) (lists.Values values) = ⊥
FitKind (kinds.Bytes width) (lists.Ints numbers) = ⊥
FitKind (kinds.Bytes width) (lists.Flags flags) = ⊥
FitKind (kinds.Bytes width) (lists.Bytes rows) = All (λ row. length row ≤ width) rows
FitKind (kinds.Bytes width) (lists.Units rows) = ⊥
FitKind (kinds.Fixed width) (lists.Values values) = ⊥
FitKind (kinds.Fixed width) (lists.Ints numbers) = ⊥
FitKind (kinds.Fixed width) (lists.Flags flags) = ⊥
FitKind (kinds.Fixed width) (lists.Bytes rows) = ⊥
FitKind (kinds.Fixed width) (lists.Units rows) = All (λ row. length row ≤ width) rows

-- the items may be put at the places: as many of them, each place of the array, all of its kind
pub record FitPlain (p : PlainValue) (places : List ℕ) (items : Items) : Type 0 where
  pub many : length places ≡ count_of items
  pub below : All (λ k. k < length p.items) places
  pub kind : FitKind p.kind items
