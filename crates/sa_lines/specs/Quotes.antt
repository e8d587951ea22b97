-- Quoted texts: how one is written, and what the pieces of a written one stand for. This project's own rule.
use Rattle.std.specs.Prelude.{ℕ, zero, suc, ◌+◌, ◌-◌, ◌*◌, ◌==◌, nat_lt, nat_le, ◌||◌, ◌&&◌, List, [], ◌∷◌, ◌++◌, length, take, drop, Option, None, Some, option_map, if◌then◌else◌, encode_utf8}
use Rattle.std.specs.Char.Escape.{escape_unicode}
use Rattle.std.specs.List.{flat_map, prefix_len}
use Rattle.std.proofs.Math.Utf8.{scalar}
use Rattle.sa_runs.specs.Runs.{is_plain}
use Rattle.sa_lines.specs.Options.{◌>>=◌, in_front}

-- a code point of a quoted text: a plain one as its UTF-8, a quotation mark and a backslash behind a backslash, and a control character below U+0020 and U+007F by its number, as std's `escape_unicode`
abbrev pub piece : ℕ → List ℕ
piece c = if is_plain c then encode_utf8 c else (if (c == 34) || (c == 92) then 92 ∷ c ∷ [] else escape_unicode c)

-- a text in quotation marks
abbrev pub quoted : List ℕ → List ℕ
quoted text = 34 ∷ (flat_map piece text ++ 34 ∷ [])

-- the value of a lower-case hexadecimal digit
abbrev pub hex_value : ℕ → Option ℕ
hex_value b = if nat_le 48 b && nat_le b 57 then Some (b - 48) else (if nat_le 97 b && nat_le b 102 then Some (b - 87) else None)

-- up to this many more hexadecimal digits behind a number, then a closing brace
abbrev pub hex_at : ℕ → ℕ → List ℕ → Option (ℕ × List ℕ)
hex_at left value [] = None
hex_at zero value (b ∷ bs) = if b == 125 then Some (value, bs) else None
hex_at (suc left) value (b ∷ bs) = if b == 125 then Some (value, bs) else (hex_value b >>= λ d. hex_at left (value * 16 + d) bs)

-- one to six hexadecimal digits in braces that are a Unicode scalar value stand for its UTF-8
abbrev pub scalar_at : List ℕ → Option (List ℕ × List ℕ)
scalar_at [] = None
scalar_at (b ∷ []) = None
scalar_at (b ∷ d ∷ bs) = if b == 123 then (hex_value d >>= λ first. hex_at 5 first bs >>= λ n. if scalar n.0 then Some (encode_utf8 n.0, n.1) else None) else None

-- what follows a backslash
abbrev pub escape_at : List ℕ → Option (List ℕ × List ℕ)
escape_at [] = None
escape_at (b ∷ bs) = if (b == 34) || (b == 92) then Some (b ∷ [], bs) else (if b == 117 then scalar_at bs else None)

-- one piece of a quoted text that begins with this byte: the bytes that it stands for, and those after it
abbrev pub piece_at : ℕ → List ℕ → Option (List ℕ × List ℕ)
piece_at b bs = if b == 92 then escape_at bs else (if nat_lt b 32 then None else Some (b ∷ [], bs))

-- the bytes that fewer than this many pieces stand for, up to the closing quotation mark, and those after it
abbrev pub pieces_at : ℕ → List ℕ → Option (List ℕ × List ℕ)
pieces_at zero bs = None
pieces_at (suc left) [] = None
pieces_at (suc left) (b ∷ bs) = if b == 34 then Some ([], bs) else (piece_at b bs >>= λ p. option_map (in_front p.0) (pieces_at left p.1))

-- a quoted text at the front: the bytes that its pieces stand for, and those after it
abbrev pub quoted_at : List ℕ → Option (List ℕ × List ℕ)
quoted_at [] = None
quoted_at (b ∷ bs) = if b == 34 then pieces_at (length bs) bs else None

-- these bytes where a quotation mark closes them, and those after it
abbrev pub closed : List ℕ → List ℕ → Option (List ℕ × List ℕ)
closed text [] = None
closed text (b ∷ bs) = if b == 34 then Some (text, bs) else None

-- a quoted text at the front that is plain bytes alone, and the bytes after it
abbrev pub plain_at : List ℕ → Option (List ℕ × List ℕ)
plain_at [] = None
plain_at (b ∷ bs) = if b == 34 then closed (take (prefix_len is_plain bs) bs) (drop (prefix_len is_plain bs) bs) else None
