-- Laws of what is written and read again.
use Rattle.std.specs.Prelude.{◌≡◌, ◌↔◌, ℕ, ◌^◌, ◌<◌, ◌≤◌, nat_le, true, List, [], ◌∷◌, ◌++◌, length, Some, ℤ, pos, negsuc, decimal, encode_utf8, encode_utf8_all, is_some}
use Rattle.std.specs.Fmt.{signed_decimal}
use Rattle.std.specs.List.{AllByRecursion, flat_map, list_all}
use Rattle.std.specs.Str.Parse.{digits_value}
use Rattle.std.proofs.Math.Utf8.{scalar, scalars}
use Rattle.sa_lines.specs.Lines.{lines_of, line}
use Rattle.sa_lines.specs.Numbers.{number_of, strict_number_of, strict_number_at, digit_count}
use Rattle.sa_lines.specs.Quotes.{quoted, quoted_at, piece, hex_value}
use Rattle.sa_lines.specs.Tokens.{joined, leads, tokens_of, Between, Inside}

-- no byte is a control character below 32
abbrev pub IsWithoutControls : List ℕ → Type 0
IsWithoutControls bytes = list_all (nat_le 32) bytes ≡ true

-- these bytes are one whole token: no byte of them ends it, and no quoted text is left open
abbrev pub IsToken : List ℕ → Type 0
IsToken bytes = leads Between bytes ≡ Some Inside

-- a line that was written is the first that is read
abbrev pub LinesAgain : Type 0
LinesAgain = (bytes rest : List ℕ) → IsWithoutControls bytes → lines_of (line bytes ++ rest) ≡ bytes ∷ lines_of rest

-- tokens that were joined are read as they were
abbrev pub TokensAgain : Type 0
TokensAgain = (tokens : List (List ℕ)) → AllByRecursion IsToken tokens → tokens_of (joined tokens) ≡ tokens

-- a text that was quoted is read as its UTF-8, and what follows it is left
abbrev pub QuotedAgain : Type 0
QuotedAgain = (text rest : List ℕ) → scalars text ≡ true → quoted_at (quoted text ++ rest) ≡ Some (encode_utf8_all text, rest)

-- one to six lower-case hexadecimal digits; leading zeros are allowed
pub record AreHexDigits (digits : List ℕ) : Type 0 where
  pub some : 0 < length digits
  pub few : length digits ≤ 6
  pub all : list_all (λ d. is_some (hex_value d)) digits ≡ true

-- a code point by its number
abbrev pub numbered_piece : List ℕ → List ℕ
numbered_piece digits = 92 ∷ 117 ∷ 123 ∷ (digits ++ 125 ∷ [])

-- inside a quoted text a scalar value by its number is read as that code point
abbrev pub NumberedAgain : Type 0
NumberedAgain = (digits front behind rest : List ℕ) → AreHexDigits digits → scalar (digits_value 16 digits) ≡ true → scalars front ≡ true → scalars behind ≡ true
    → quoted_at (34 ∷ (flat_map piece front ++ (numbered_piece digits ++ (flat_map piece behind ++ 34 ∷ rest)))) ≡ Some (encode_utf8_all front ++ (encode_utf8 (digits_value 16 digits) ++ encode_utf8_all behind), rest)

-- a number of 64 bits with a sign
abbrev pub IsI64 : ℤ → Type 0
IsI64 (pos n) = n < 2 ^ 63
IsI64 (negsuc n) = n < 2 ^ 63

-- a number that was written in decimal, with a minus sign where it is negative, is read as it was
abbrev pub DecimalAgain : Type 0
DecimalAgain = (number : ℤ) → IsI64 number → number_of (signed_decimal number) ≡ Some (Some number)

-- the strict spelling of a number is what is written in decimal, and nothing else is
abbrev pub StrictIsDecimal : Type 0
StrictIsDecimal = (number : ℕ) (bytes : List ℕ) → number < 2 ^ 64 → (strict_number_of bytes ≡ Some number) ↔ (bytes ≡ decimal number)

-- a number that was written in front of bytes that begin with no digit is read from the front
abbrev pub DecimalInFront : Type 0
DecimalInFront = (number : ℕ) (rest : List ℕ) → number < 2 ^ 64 → digit_count rest ≡ 0 → strict_number_at (decimal number ++ rest) ≡ Some (number, rest)
