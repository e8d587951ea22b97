-- Places in a text, in code points and in the bytes of its UTF-8 (the Unicode standard, UTF-8; code points counted as Python's str).
use Rattle.std.specs.Prelude.{◌≡◌, ◌≤◌, ◌-◌, ◌==◌, ◌||◌, ◌++◌, ◌∷◌, [], ℕ, suc, Bool, List, Option, Some, None, length, take, drop, nat_eq, nat_lt, nat_le, if◌then◌else◌, encode_utf8, IsUtf8}
use Rattle.std.specs.List.{starts_with}
use Rattle.std.specs.Str.{chars}
use Rattle.sa_text.specs.Texts.{text_size}

-- the byte begins a code point in UTF-8 (the others, 128 to 191, go on with one)
abbrev pub is_lead : ℕ → Bool
is_lead byte = nat_lt byte 128 || nat_le 192 byte

-- the byte where the code point at place k begins; the text's size where k is its length; none above it
abbrev pub byte_of : List ℕ → ℕ → Option ℕ
byte_of text k = if nat_le k (length text) then Some (text_size (take k text)) else None

-- how many code points begin before the byte `at`
abbrev pub points_before : List ℕ → ℕ → ℕ
points_before [] at = 0
points_before (c ∷ cs) at = if at == 0 then 0 else suc (points_before cs (at - length (encode_utf8 c)))

-- a code point begins at the byte `at`, or the text ends there
abbrev pub is_cut : List ℕ → ℕ → Bool
is_cut text at = text_size (take (points_before text at) text) == at

-- the numbers of a list from place k on begin with those of another: of bytes and of code points
abbrev pub occurs_at : List ℕ → List ℕ → ℕ → Bool
occurs_at list part k = starts_with nat_eq (drop k list) part

-- UTF-8 is cut before its code point at place k
pub record AreParts (bytes : List ℕ) (k : ℕ) (first rest : List ℕ) : Type 0 where
  pub whole : bytes ≡ first ++ rest
  pub front : chars first ≡ take k (chars bytes)
  pub front_utf8 : IsUtf8 first
  pub back : chars rest ≡ drop k (chars bytes)
  pub back_utf8 : IsUtf8 rest
  pub within : k ≤ length (chars bytes)
