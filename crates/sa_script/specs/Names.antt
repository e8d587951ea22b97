-- Names as they are spelled in a script.
use Rattle.std.specs.Prelude.{ℕ, nat_le, Bool, false, ◌&&◌, ◌||◌, ◌==◌, not, List, [], ◌∷◌, Option, Some, None, if◌then◌else◌, codes}
use Rattle.std.specs.List.{list_all}
use Rattle.sa_lines.specs.Tokens.{is_word}

abbrev pub is_small_letter : ℕ → Bool
is_small_letter b = nat_le 97 b && nat_le b 122

-- a letter a to z, a digit or _
abbrev pub is_name_byte : ℕ → Bool
is_name_byte b = (is_small_letter b || (nat_le 48 b && nat_le b 57)) || (b == 95)

-- a word that means something else where a name may stand
abbrev pub is_reserved : List ℕ → Bool
is_reserved token = (is_word (codes "na") token || is_word (codes "true") token) || (is_word (codes "false") token || is_word (codes "into") token)

-- a letter a to z, then letters, digits and _
abbrev pub is_name : List ℕ → Bool
is_name [] = false
is_name (b ∷ bs) = is_small_letter b && list_all is_name_byte bs

abbrev pub name_of : List ℕ → Option (List ℕ)
name_of token = if is_name token && not (is_reserved token) then Some token else None

-- the names of the descriptors and of the arrays, each in order of declaration
pub record Known : Type 0 where
  pub descrs : List (List ℕ)
  pub arrays : List (List ℕ)
