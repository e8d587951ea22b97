-- Numbers as they stand in scripts and reports.
use Rattle.std.specs.Prelude.{ℕ, ◌-◌, ◌^◌, ◌==◌, nat_lt, nat_le, ◌&&◌, List, [], ◌∷◌, length, take, drop, Option, None, Some, option_map, if◌then◌else◌, ℤ, pos, negsuc}
use Rattle.std.specs.Char.{is_ascii_digit}
use Rattle.std.specs.List.{prefix_len}
use Rattle.std.specs.Str.{all_ascii_digits}
use Rattle.std.specs.Str.Parse.{digits_value}

-- one or more decimal digits; leading zeros are allowed
abbrev pub digits_of : List ℕ → Option ℕ
digits_of [] = None
digits_of (b ∷ bs) = if all_ascii_digits (b ∷ bs) then Some (digits_value 10 (b ∷ bs)) else None

-- a number that is an i64, or none
abbrev pub fitted : ℕ → Option ℤ
fitted n = if nat_le n (2 ^ 63 - 1) then Some (pos n) else None

-- the negation of a number where that is an i64, or none
abbrev pub fitted_negative : ℕ → Option ℤ
fitted_negative n = if n == 0 then Some (pos 0) else (if nat_le n (2 ^ 63) then Some (negsuc (n - 1)) else None)

-- The lenient spelling, of scripts: an optional minus sign and digits, where leading zeros and -0 are allowed. The outer none is no number, the inner none a number that is no i64.
abbrev pub number_of : List ℕ → Option (Option ℤ)
number_of [] = None
number_of (b ∷ bs) = if b == 45 then option_map fitted_negative (digits_of bs) else option_map fitted (digits_of (b ∷ bs))

-- The strict spelling of a natural number, that of `decimal`: digits alone, of which the first is 0 only where it is the only one.
abbrev pub strict_number_of : List ℕ → Option ℕ
strict_number_of [] = None
strict_number_of (b ∷ bs) = if (b == 48) && nat_lt 0 (length bs) then None else digits_of (b ∷ bs)

-- how many digits stand at the front
abbrev pub digit_count : List ℕ → ℕ
digit_count bytes = prefix_len is_ascii_digit bytes

-- the number that all digits at the front spell strictly, and what follows them
abbrev pub strict_number_at : List ℕ → Option (ℕ × List ℕ)
strict_number_at bytes = option_map (λ n. (n, drop (digit_count bytes) bytes)) (strict_number_of (take (digit_count bytes) bytes))
