-- Texts that are made of others: too long is told before any memory is taken (this project's own rule).
use Rattle.std.specs.Prelude.{◌≡◌, ◌≤◌, ◌<◌, ℕ, List, nat_le, if◌then◌else◌, Result, Ok, Err, IsOk}
use Rattle.sa_text.specs.Texts.{text_size, most_bytes}
use Rattle.sa_text.specs.declared.edit_error.EditError.{EditError}
use Rattle.sa_text.specs.declared.edit_error.EditError.TheVariants as errors

-- the text that is defined, where its UTF-8 is within the limit
abbrev pub made : List ℕ → Result (List ℕ) EditError
made text = if nat_le (text_size text) most_bytes then Ok text else Err errors.TooLong

-- want of memory comes in place of a text alone, and too long is the definition's
abbrev pub FailsText : EditError → Result (List ℕ) EditError → Type 0
FailsText errors.Memory defined = IsOk defined
FailsText errors.TooLong defined = defined ≡ Err errors.TooLong

-- a call gives what the definition says, unless there is no memory for it
abbrev pub GivesText : Result (List ℕ) EditError → Result (List ℕ) EditError → Type 0
GivesText (Ok text) defined = defined ≡ Ok text
GivesText (Err error) defined = FailsText error defined

-- why a text of this many bytes is not begun: too long exactly where the size is above the limit
abbrev pub RefusesSize : EditError → ℕ → Type 0
RefusesSize errors.TooLong size = most_bytes < size
RefusesSize errors.Memory size = size ≤ most_bytes

-- a text that is being made: its code points so far, and the bytes that there is room for
pub record Draft : Type 0 where
  pub text : List ℕ
  pub room : ℕ
