-- A text is sought in another by bytes: why that finds what a search by code points finds (UTF-8 synchronizes itself, the Unicode standard).
use Rattle.std.specs.Prelude.{◌≡◌, ◌<◌, ◌&&◌, ℕ, List, length, encode_utf8_all}
use Rattle.sa_text.specs.Points.{is_cut, occurs_at, points_before}

-- the bytes of a part that is not empty stand at a byte of a text exactly where a code point begins there and the part's code points stand from it on
abbrev pub SearchesBytes : Type 0
SearchesBytes = (text part : List ℕ) → 0 < length part → (at : ℕ) →
    occurs_at (encode_utf8_all text) (encode_utf8_all part) at ≡ (is_cut text at && occurs_at text part (points_before text at))
