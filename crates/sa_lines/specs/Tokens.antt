-- The tokens of a line: what stands between blanks, where a quoted text is part of one token. This project's own rule.
use Rattle.std.specs.Prelude.{ℕ, ◌==◌, Bool, false, List, [], ◌∷◌, Option, None, Some, if◌then◌else◌}
use Rattle.std.specs.List.{onto_first, join_with_byte}
use Rattle.std.specs.Str.{bytes_eq}
use Rattle.sa_lines.specs.Lines.{is_blank}

-- where a byte stands: between two tokens, in a token outside of quoted texts, in a quoted text, and there behind a backslash
pub data TokenState : Type 0 where
  Between : TokenState
  Inside : TokenState
  Quoted : TokenState
  Escaped : TokenState

-- whether a byte that stands there ends a token, or stands between two: a blank does, outside of quoted texts
abbrev pub ends : TokenState → ℕ → Bool
ends Between b = is_blank b
ends Inside b = is_blank b
ends Quoted b = false
ends Escaped b = false

-- where the byte after one stands that ends no token: a quotation mark opens and closes a text, and in a text a backslash keeps the next byte
abbrev pub after : TokenState → ℕ → TokenState
after Between b = if b == 34 then Quoted else Inside
after Inside b = if b == 34 then Quoted else Inside
after Quoted b = if b == 34 then Inside else (if b == 92 then Escaped else Quoted)
after Escaped b = Quoted

-- the tokens, where one was begun or not, and those that follow
abbrev pub ended : TokenState → List (List ℕ) → List (List ℕ)
ended Between ts = ts
ended Inside ts = [] ∷ ts
ended Quoted ts = [] ∷ ts
ended Escaped ts = [] ∷ ts

-- the tokens of bytes of which the first stands there: a byte that ends no token goes onto the first of those that follow
abbrev pub tokens_at : TokenState → List ℕ → List (List ℕ)
tokens_at s [] = ended s []
tokens_at s (b ∷ bs) = if ends s b then ended s (tokens_at Between bs) else onto_first b (tokens_at (after s b) bs)

-- the tokens of a line
abbrev pub tokens_of : List ℕ → List (List ℕ)
tokens_of bytes = tokens_at Between bytes

-- tokens with one space between two of them
abbrev pub joined : List (List ℕ) → List ℕ
joined tokens = join_with_byte 32 tokens

-- where the byte behind these stands, or none where one of them ends a token
abbrev pub leads : TokenState → List ℕ → Option TokenState
leads s [] = Some s
leads s (b ∷ bs) = if ends s b then None else leads (after s b) bs

-- whether a token is this word
abbrev pub is_word : List ℕ → List ℕ → Bool
is_word word token = bytes_eq token word
