-- What the items of an array and of an operand are, and what fits an array. Source: this project's script language.
use Rattle.std.specs.Prelude.{◌≡◌, ℕ, ◌==◌, nat_le, Bool, true, false, ◌&&◌, List, [], ◌∷◌, length, map, Option, Some, None}
use Rattle.std.specs.List.{list_all}
use Rattle.sa_base.specs.Items.{Item, MissingItem, TextItem, IntegerItem, FlagItem, BytesItem, UnitsItem}
use Rattle.sa_text.specs.Values.{value_of}
use Rattle.sa_view.specs.declared.view.View.{View}
use Rattle.sa_plain.specs.Plains.{width_of}
use Rattle.sa_plain.specs.Spreads.{widened}
use Rattle.sa_plain.specs.declared.items.Items.{Items}
use Rattle.sa_plain.specs.declared.items.Items.TheVariants.{Values, Ints, Flags, Bytes, Units}
use Rattle.sa_plain.specs.declared.kind.PlainKind.{PlainKind}
use Rattle.sa_plain.specs.declared.kind.PlainKind.TheVariants as plain
use Rattle.sa_call.specs.declared.call.Operand.{Operand}
use Rattle.sa_call.specs.declared.call.Operand.TheVariants as operand
use Rattle.sa_call.specs.declared.decls.Kind.{Kind}
use Rattle.sa_call.specs.declared.decls.Kind.TheVariants as kind
use Rattle.sa_call.specs.declared.form.Results.{Results}
use Rattle.sa_call.specs.declared.form.Results.TheVariants as results
use Rattle.sa_call.specs.Decls.{Declared, kind_of}
use Rattle.sa_call.specs.Forms.{flag_in, number_in}

-- what the items of a list are
pub data ListKind : Type 0 where
  OfValues : ListKind
  OfInts : ListKind
  OfFlags : ListKind
  OfBytes : ListKind
  OfUnits : ListKind

abbrev pub list_kind : Items → ListKind
list_kind (Values values) = OfValues
list_kind (Ints numbers) = OfInts
list_kind (Flags flags) = OfFlags
list_kind (Bytes rows) = OfBytes
list_kind (Units rows) = OfUnits

-- what the items of an array of a kind are
abbrev pub plain_items : PlainKind → ListKind
plain_items plain.Int = OfInts
plain_items plain.Bool = OfFlags
plain_items (plain.Bytes width) = OfBytes
plain_items (plain.Fixed width) = OfUnits

abbrev pub array_items : Kind → ListKind
array_items kind.Str = OfValues
array_items (kind.Plain p) = plain_items p

-- what the items of an operand are, and those of the first operand
abbrev pub operand_items : Declared → Operand → ListKind
operand_items decls (operand.View v) = array_items (kind_of decls v.array)
operand_items decls (operand.Literal items) = list_kind items

abbrev pub first_items : Declared → List Operand → ListKind
first_items decls [] = OfValues
first_items decls (o ∷ os) = operand_items decls o

-- what a call gives: items of the first operand's kind where it moves them
abbrev pub given_items : Results → ListKind → ListKind
given_items results.Moved first = first
given_items results.Texts first = OfValues
given_items results.Numbers first = OfInts
given_items results.Flags first = OfFlags

-- the bytes, and the units, that an item is; other items have none
abbrev pub bytes_in : Item → List ℕ
bytes_in MissingItem = []
bytes_in (TextItem text) = []
bytes_in (IntegerItem n) = []
bytes_in (FlagItem b) = []
bytes_in (BytesItem bytes) = bytes
bytes_in (UnitsItem units) = []

abbrev pub units_in : Item → List ℕ
units_in MissingItem = []
units_in (TextItem text) = []
units_in (IntegerItem n) = []
units_in (FlagItem b) = []
units_in (BytesItem bytes) = []
units_in (UnitsItem units) = units

-- items as a list of a kind
abbrev pub items_as : ListKind → List Item → Items
items_as OfValues items = Values (map value_of items)
items_as OfInts items = Ints (map number_in items)
items_as OfFlags items = Flags (map flag_in items)
items_as OfBytes items = Bytes (map bytes_in items)
items_as OfUnits items = Units (map units_in items)

-- how wide the texts of an array are; 0 where they have no fixed width
abbrev pub kind_width : Kind → ℕ
kind_width kind.Str = 0
kind_width (kind.Plain p) = width_of p

abbrev pub output_width : Declared → Option View → ℕ
output_width decls None = 0
output_width decls (Some out) = kind_width (kind_of decls out.array)

-- no text of a list is wider
abbrev pub are_within : ℕ → List (List ℕ) → Bool
are_within width rows = list_all (λ row. nat_le (length row) width) rows

-- items that an array of a kind may hold: they are of its kind, and no text of a fixed width is wider
abbrev pub fits_plain : PlainKind → Items → Bool
fits_plain plain.Int (Values values) = false
fits_plain plain.Int (Ints numbers) = true
fits_plain plain.Int (Flags flags) = false
fits_plain plain.Int (Bytes rows) = false
fits_plain plain.Int (Units rows) = false
fits_plain plain.Bool (Values values) = false
fits_plain plain.Bool (Ints numbers) = false
fits_plain plain.Bool (Flags flags) = true
fits_plain plain.Bool (Bytes rows) = false
fits_plain plain.Bool (Units rows) = false
fits_plain (plain.Bytes width) (Values values) = false
fits_plain (plain.Bytes width) (Ints numbers) = false
fits_plain (plain.Bytes width) (Flags flags) = false
fits_plain (plain.Bytes width) (Bytes rows) = are_within width rows
fits_plain (plain.Bytes width) (Units rows) = false
fits_plain (plain.Fixed width) (Values values) = false
fits_plain (plain.Fixed width) (Ints numbers) = false
fits_plain (plain.Fixed width) (Flags flags) = false
fits_plain (plain.Fixed width) (Bytes rows) = false
fits_plain (plain.Fixed width) (Units rows) = are_within width rows

-- the items are values
abbrev pub are_values : Items → Bool
are_values (Values values) = true
are_values (Ints numbers) = false
are_values (Flags flags) = false
are_values (Bytes rows) = false
are_values (Units rows) = false

abbrev pub fits_kind : Kind → Items → Bool
fits_kind kind.Str items = are_values items
fits_kind (kind.Plain p) items = fits_plain p items

-- two arrays hold items of one kind, and of one width where they have one
abbrev pub is_same_plain : PlainKind → PlainKind → Bool
is_same_plain plain.Int plain.Int = true
is_same_plain plain.Int plain.Bool = false
is_same_plain plain.Int (plain.Bytes width) = false
is_same_plain plain.Int (plain.Fixed width) = false
is_same_plain plain.Bool plain.Int = false
is_same_plain plain.Bool plain.Bool = true
is_same_plain plain.Bool (plain.Bytes width) = false
is_same_plain plain.Bool (plain.Fixed width) = false
is_same_plain (plain.Bytes width) plain.Int = false
is_same_plain (plain.Bytes width) plain.Bool = false
is_same_plain (plain.Bytes width) (plain.Bytes other) = width == other
is_same_plain (plain.Bytes width) (plain.Fixed other) = false
is_same_plain (plain.Fixed width) plain.Int = false
is_same_plain (plain.Fixed width) plain.Bool = false
is_same_plain (plain.Fixed width) (plain.Bytes other) = false
is_same_plain (plain.Fixed width) (plain.Fixed other) = width == other

abbrev pub is_same_kind : Kind → Kind → Bool
is_same_kind kind.Str kind.Str = true
is_same_kind kind.Str (kind.Plain p) = false
is_same_kind (kind.Plain p) kind.Str = false
is_same_kind (kind.Plain p) (kind.Plain q) = is_same_plain p q

-- the array holds numbers, or flags
abbrev pub holds_numbers : Kind → Bool
holds_numbers kind.Str = false
holds_numbers (kind.Plain plain.Int) = true
holds_numbers (kind.Plain plain.Bool) = false
holds_numbers (kind.Plain (plain.Bytes width)) = false
holds_numbers (kind.Plain (plain.Fixed width)) = false

abbrev pub holds_truths : Kind → Bool
holds_truths kind.Str = false
holds_truths (kind.Plain plain.Int) = false
holds_truths (kind.Plain plain.Bool) = true
holds_truths (kind.Plain (plain.Bytes width)) = false
holds_truths (kind.Plain (plain.Fixed width)) = false

-- lists that were read, one for each view, may each be what the view's array holds
abbrev pub lists_fit : Declared → List Operand → List Items → Bool
lists_fit decls [] lists = true
lists_fit decls (operand.Literal items ∷ os) lists = lists_fit decls os lists
lists_fit decls (operand.View v ∷ os) [] = true
lists_fit decls (operand.View v ∷ os) (l ∷ ls) = fits_kind (kind_of decls v.array) l && lists_fit decls os ls

-- results may be put into the output
abbrev pub output_fits : Declared → Option View → Option Items → Bool
output_fits decls None found = true
output_fits decls (Some out) None = true
output_fits decls (Some out) (Some items) = fits_kind (kind_of decls out.array) items
