-- How items are written in a report and in a script: this project's own format.
use Rattle.std.specs.Prelude.{ℕ, suc, ℤ, pos, negsuc, ◌+◌, ◌/◌, ◌%◌, Bool, true, false, List, [], ◌∷◌, ◌++◌, ◌==◌, map, nat_lt, if◌then◌else◌, codes, decimal}
use Rattle.std.specs.Int.Digits.{digits_of}
use Rattle.std.specs.List.{flat_map, join_by}
use Rattle.sa_lines.specs.Quotes.{quoted}
use Rattle.sa_text.specs.declared.value.Value.{Value}
use Rattle.sa_text.specs.declared.value.Value.TheVariants.{Missing, Of}
use Rattle.sa_plain.specs.declared.items.Items.{Items}
use Rattle.sa_plain.specs.declared.items.Items.TheVariants.{Values, Ints, Flags, Bytes, Units}

-- a value of a list
abbrev pub value_bytes : Value → List ℕ
value_bytes Missing = codes "na"
value_bytes (Of text) = quoted text

-- a number: its decimal digits, behind a minus sign where it is negative
abbrev pub number_bytes : ℤ → List ℕ
number_bytes (pos n) = decimal n
number_bytes (negsuc n) = 45 ∷ decimal (suc n)

-- a flag
abbrev pub flag_bytes : Bool → List ℕ
flag_bytes true = codes "true"
flag_bytes false = codes "false"

-- a lower-case hexadecimal digit; a byte as two of them, and bytes so
abbrev pub hex_digit : ℕ → ℕ
hex_digit n = if nat_lt n 10 then 48 + n else 87 + n

abbrev pub hex_byte : ℕ → List ℕ
hex_byte b = hex_digit (b / 16) ∷ hex_digit (b % 16) ∷ []

abbrev pub hex_bytes : List ℕ → List ℕ
hex_bytes bytes = flat_map hex_byte bytes

-- a byte text of a fixed width: all its bytes
abbrev pub byte_text : List ℕ → List ℕ
byte_text bytes = codes "hex:" ++ hex_bytes bytes

-- a unit in hexadecimal digits, without leading zeros; a unicode text of a fixed width: all its units
abbrev pub unit_bytes : ℕ → List ℕ
unit_bytes unit = if unit == 0 then 48 ∷ [] else map hex_digit (digits_of 16 unit)

abbrev pub unit_text : List ℕ → List ℕ
unit_text units = codes "units:" ++ join_by unit_bytes (46 ∷ []) units

-- items with a comma between two of them, in brackets
abbrev pub in_brackets : List ℕ → List ℕ
in_brackets bytes = 40 ∷ (bytes ++ 41 ∷ [])

abbrev pub list_bytes : Items → List ℕ
list_bytes (Values values) = in_brackets (join_by value_bytes (44 ∷ []) values)
list_bytes (Ints numbers) = in_brackets (join_by number_bytes (44 ∷ []) numbers)
list_bytes (Flags flags) = in_brackets (join_by flag_bytes (44 ∷ []) flags)
list_bytes (Bytes rows) = in_brackets (join_by byte_text (44 ∷ []) rows)
list_bytes (Units rows) = in_brackets (join_by unit_text (44 ∷ []) rows)
