-- Names are ASCII, and so UTF-8.
use Rattle.std.proofs.Common.{◌≡◌, ℕ, ◌<◌, true, List, [], ◌∷◌, IsUtf8, arith}
use Rattle.std.proofs.Common.{String, Global, string_bytes, map, sym}
use Rattle.std.specs.List.{list_all, position}
use Rattle.std.specs.Str.{bytes_eq}
use Rattle.sa_descr.proofs.RuleLemmas.{position-map}
use Rattle.std.specs.Str.{IsAscii}
use Rattle.std.proofs.lemmas.Str.{IsUtf8-from_ascii}
use Rattle.std.proofs.lemmas.Str.Ascii.{IsAscii-nil, IsAscii-cons}
use Rattle.std.proofs.lemmas.Bool.{and_parts}
use Rattle.std.proofs.lemmas.Bool.Decides.{nat_tests}
use Rattle.sa_script.specs.Names.{is_small_letter, is_name_byte, is_name}

name_byte_is_ascii : (b : ℕ) → is_name_byte b ≡ true → b < 128
name_byte_is_ascii b e = grind (arith, nat_tests)

small_letter_is_ascii : (b : ℕ) → is_small_letter b ≡ true → b < 128
small_letter_is_ascii b e = grind (arith, nat_tests)

all_ascii : (bs : List ℕ) → list_all is_name_byte bs ≡ true → IsAscii bs
all_ascii [] e = IsAscii-nil
all_ascii (b ∷ bs) e = let parts = and_parts (is_name_byte b) (list_all is_name_byte bs) e in IsAscii-cons b bs (name_byte_is_ascii b parts.0) (all_ascii bs parts.1)

-- a name is UTF-8
pub name_is_utf8 : (token : List ℕ) → is_name token ≡ true → IsUtf8 token
name_is_utf8 [] e = IsUtf8-from_ascii [] IsAscii-nil
name_is_utf8 (b ∷ bs) e =
    let parts = and_parts (is_small_letter b) (list_all is_name_byte bs) e in
    IsUtf8-from_ascii (b ∷ bs) (IsAscii-cons b bs (small_letter_is_ascii b parts.0) (all_ascii bs parts.1))

-- the first of some strings that is this name
pub position_strings : (names : List (String Global)) (name : List ℕ) → position (λ n. bytes_eq (string_bytes n) name) names ≡ position (λ n. bytes_eq n name) (map string_bytes names)
position_strings names name = sym (position-map (λ n. bytes_eq n name) string_bytes names)
