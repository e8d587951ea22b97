-- Texts as lists of code points (Unicode scalar values, as Python's str), and the bytes that are one.
use Rattle.std.specs.Prelude.{◌≡◌, ◌≤◌, ℕ, true, List, length, nat_le, if◌then◌else◌, Result, Ok, Err, encode_utf8_all, IsOk}
use Rattle.std.specs.Str.{chars, is_utf8}
use Rattle.std.proofs.Math.Utf8.{scalars}
use Rattle.sa_text.specs.declared.text_error.TextError.{TextError}
use Rattle.sa_text.specs.declared.text_error.TextError.TheVariants as errors

-- the most bytes that the UTF-8 of one text has: a limit of this project
abbrev pub most_bytes : ℕ
most_bytes = 65536

-- the length of a text's UTF-8
abbrev pub text_size : List ℕ → ℕ
text_size text = length (encode_utf8_all text)

-- the code points are a text: each is a Unicode scalar value, and their UTF-8 is within the limit
pub record IsText (text : List ℕ) : Type 0 where
  pub scalars : scalars text ≡ true
  pub size : text_size text ≤ most_bytes

-- the text that the bytes are, or why they are none
abbrev pub text_of : List ℕ → Result (List ℕ) TextError
text_of bytes = if nat_le (length bytes) most_bytes then (if is_utf8 bytes then Ok (chars bytes) else Err errors.NotUtf8) else Err errors.TooLong

-- want of memory comes in place of a text alone, and each fault is the definition's
abbrev pub Fails : TextError → Result (List ℕ) TextError → Type 0
Fails errors.Memory text = IsOk text
Fails errors.TooLong text = text ≡ Err errors.TooLong
Fails errors.NotUtf8 text = text ≡ Err errors.NotUtf8

-- a call gives what the definition says, unless there is no memory for it
abbrev pub Gives : Result (List ℕ) TextError → Result (List ℕ) TextError → Type 0
Gives (Ok text) defined = defined ≡ Ok text
Gives (Err error) defined = Fails error defined
