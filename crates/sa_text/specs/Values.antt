-- Values, their weights, and the item that a value is.
use Rattle.std.specs.Prelude.{ℕ, ◌+◌, List, [], ◌∷◌, replicate, sum_by, Bool, true, false}
use Rattle.sa_base.specs.Items.{Item, MissingItem, TextItem, IntegerItem, FlagItem, BytesItem, UnitsItem}
use Rattle.sa_text.specs.Texts.{text_size, IsText}
use Rattle.sa_text.specs.declared.value.Value.{Value}
use Rattle.sa_text.specs.declared.value.Value.TheVariants.{Missing, Of}

-- what a value weighs: 16, and the bytes of its text
abbrev pub value_weight : Value → ℕ
value_weight Missing = 16
value_weight (Of text) = 16 + text_size text

-- what a list of values weighs
abbrev pub weight_of : List Value → ℕ
weight_of values = sum_by value_weight values

-- a list of one value is stretched to this length
abbrev pub stretched : ℕ → List Value → List Value
stretched count [] = []
stretched count (v ∷ []) = replicate count v
stretched count (v ∷ w ∷ vs) = v ∷ w ∷ vs

-- the value is missing
abbrev pub is_missing : Value → Bool
is_missing Missing = true
is_missing (Of text) = false

-- the text of a value that is not missing is a text
abbrev pub IsTextValue : Value → Type 0
IsTextValue Missing = Unit {0}
IsTextValue (Of text) = IsText text

-- the item that a value is
abbrev pub item_of : Value → Item
item_of Missing = MissingItem
item_of (Of text) = TextItem text

-- the value that an item is; an item that is none counts as missing
abbrev pub value_of : Item → Value
value_of MissingItem = Missing
value_of (TextItem text) = Of text
value_of (IntegerItem n) = Missing
value_of (FlagItem b) = Missing
value_of (BytesItem bytes) = Missing
value_of (UnitsItem units) = Missing
