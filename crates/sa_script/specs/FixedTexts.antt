-- Texts of a fixed width as they are spelled in a script: bytes, and units of 32 bits, in hexadecimal digits. This project's own spelling.
use Rattle.std.specs.Prelude.{ℕ, ◌+◌, ◌*◌, ◌-◌, nat_le, ◌≤◌, ◌&&◌, ◌==◌, List, [], ◌∷◌, length, take, Option, Some, None, option_map, if◌then◌else◌, codes}
use Rattle.std.specs.List.{slice_split}
use Rattle.sa_lines.specs.Options.{◌>>=◌}
use Rattle.sa_plain.specs.Widths.{most_row}

-- the value of a hexadecimal digit of either case
abbrev pub hex_value : ℕ → Option ℕ
hex_value b =
    if nat_le 48 b && nat_le b 57 then Some (b - 48)
    else (if nat_le 97 b && nat_le b 102 then Some (b - 87)
    else (if nat_le 65 b && nat_le b 70 then Some (b - 55) else None))

-- what follows a word at the front
abbrev pub behind_word : List ℕ → List ℕ → Option (List ℕ)
behind_word [] bs = Some bs
behind_word (w ∷ ws) [] = None
behind_word (w ∷ ws) (b ∷ bs) = if b == w then behind_word ws bs else None

-- Bytes, units: no more of a text are kept than a list may have, which is one more than any array is wide. So a text that is cut is too wide for each array, as it was.
abbrev pub kept : List ℕ → List ℕ
kept cells = take most_row cells

-- a text of which no more is kept
abbrev pub IsRow : {A : Type 0} → List A → Type 0
IsRow row = length row ≤ most_row

-- the byte that two digits are
abbrev pub byte_of : ℕ → ℕ → Option ℕ
byte_of a b = hex_value a >>= λ high. hex_value b >>= λ low. Some (16 * high + low)

-- the bytes that an even number of digits are
abbrev pub bytes_spelled : List ℕ → Option (List ℕ)
bytes_spelled [] = Some []
bytes_spelled (a ∷ []) = None
bytes_spelled (a ∷ b ∷ bs) = byte_of a b >>= λ byte. option_map (λ more. byte ∷ more) (bytes_spelled bs)

-- a byte text: the word hex, a colon and the bytes
abbrev pub bytes_of : List ℕ → Option (List ℕ)
bytes_of piece = behind_word (codes "hex:") piece >>= λ digits. option_map kept (bytes_spelled digits)

-- the number that digits are, behind this one
abbrev pub number_behind : ℕ → List ℕ → Option ℕ
number_behind value [] = Some value
number_behind value (d ∷ ds) = hex_value d >>= λ digit. number_behind (16 * value + digit) ds

-- a unit: one to eight digits
abbrev pub unit_of : List ℕ → Option ℕ
unit_of [] = None
unit_of (d ∷ ds) = if nat_le (length ds) 7 then number_behind 0 (d ∷ ds) else None

-- the units that these parts are
abbrev pub units_in : List (List ℕ) → Option (List ℕ)
units_in [] = Some []
units_in (p ∷ ps) = unit_of p >>= λ unit. option_map (λ more. unit ∷ more) (units_in ps)

-- no unit, or units with a point between two of them
abbrev pub units_spelled : List ℕ → Option (List ℕ)
units_spelled [] = Some []
units_spelled (b ∷ bs) = units_in (slice_split (λ x. x == 46) (b ∷ bs))

-- a unicode text: the word units, a colon and the units
abbrev pub units_of : List ℕ → Option (List ℕ)
units_of piece = behind_word (codes "units:") piece >>= λ units. option_map kept (units_spelled units)
