-- UTF-8 cut where a search by bytes cuts it, told in code points: this project's own.
use Rattle.std.specs.Prelude.{◌≡◌, ◌≤◌, ◌<◌, ◌+◌, ℕ, true, false, List, length, take, drop, slice_range, IsUtf8}
use Rattle.std.specs.Str.{chars}
use Rattle.sa_text.specs.Points.{occurs_at}
use Rattle.sa_text.specs.Texts.{text_size, most_bytes}

-- UTF-8 of the code points of a text from place s to place e, and the place of the first
pub record IsWindow (text : List ℕ) (s e first : ℕ) (bytes : List ℕ) : Type 0 where
  pub begins : first ≡ s
  pub order : s ≤ e
  pub within : e ≤ length text
  pub few : e ≤ most_bytes
  pub points : chars bytes ≡ slice_range text s e
  pub utf8 : IsUtf8 bytes
  pub short : length bytes ≤ most_bytes

-- a part stands in UTF-8 behind these bytes of it
pub record IsBefore (bytes part first : List ℕ) : Type 0 where
  pub here : occurs_at (chars bytes) part (length (chars first)) ≡ true
  pub front : chars first ≡ take (length (chars first)) (chars bytes)
  pub front_utf8 : IsUtf8 first
  pub most : length first ≤ length bytes

-- it stands there for the first time
pub record IsCutFirst (bytes part first behind : List ℕ) : Type 0 where
  pub place : IsBefore bytes part first
  pub before : (k : ℕ) → k < length (chars first) → occurs_at (chars bytes) part k ≡ false
  pub back : chars behind ≡ drop (length (chars first) + length part) (chars bytes)
  pub back_utf8 : IsUtf8 behind
  pub size : length first + text_size part + length behind ≡ length bytes

-- it stands there for the last time
pub record IsCutLast (bytes part first : List ℕ) : Type 0 where
  pub place : IsBefore bytes part first
  pub after : (k : ℕ) → length (chars first) < k → occurs_at (chars bytes) part k ≡ false

-- it stands nowhere
abbrev pub StandsNowhere : List ℕ → List ℕ → Type 0
StandsNowhere text part = (k : ℕ) → occurs_at text part k ≡ false
