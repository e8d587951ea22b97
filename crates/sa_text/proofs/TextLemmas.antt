-- What the definition of a text gives, by the test for UTF-8.
use Rattle.std.proofs.Common.{◌≡◌, ◌≤◌, ℕ, Bool, true, false, cond, List, [], ◌∷◌, length, Ok, Err, IsUtf8, refl, sym, ap, subst, ◌∙◌, inl, inr, encode_utf8_all, arith}
use Rattle.std.specs.Prelude.{nat_le}
use Rattle.std.specs.Char.{is_ascii}
use Rattle.std.specs.List.{list_all}
use Rattle.std.specs.Str.{chars, is_utf8, bytes_eq, IsAscii}
use Rattle.std.proofs.lemmas.Str.{IsUtf8-from_ascii}
use Rattle.std.proofs.lemmas.Str.Ascii.{IsAscii-nil, IsAscii-cons}
use Rattle.std.proofs.lemmas.Str.{IsUtf8-from_is_utf8, is_utf8-from_IsUtf8, encodes-chars, scalars-chars}
use Rattle.std.proofs.lemmas.Bool.{cases_Bool, le-leb, leb-true, and_parts, ltb-true}
use Rattle.std.proofs.lemmas.Bool.Decides.{same_from_decides, Decides-like}
use Rattle.std.proofs.lemmas.Slice.Eq.{bytes_eq-Decides}
use Rattle.sa_text.specs.declared.text_error.TextError.TheVariants as errors
use Rattle.sa_text.specs.Texts.{text_of, most_bytes, text_size, IsText}

pub text_of-utf8 : (bytes : List ℕ) → length bytes ≤ most_bytes → IsUtf8 bytes → text_of bytes ≡ Ok (chars bytes)
text_of-utf8 bytes short utf8 =
    let e = le-leb (length bytes) 65536 short in
    let f = is_utf8-from_IsUtf8 bytes utf8 in
    rw (e, f) refl

pub text_of-not_utf8 : (bytes : List ℕ) → length bytes ≤ most_bytes → (IsUtf8 bytes → ⊥) → text_of bytes ≡ Err errors.NotUtf8
text_of-not_utf8 bytes short not_utf8 =
    let e = le-leb (length bytes) 65536 short in
    let f : is_utf8 bytes ≡ false = elim (cases_Bool (is_utf8 bytes)) [ inl t ↦ absurd (not_utf8 (IsUtf8-from_is_utf8 bytes t)) | inr h ↦ h ] in
    rw (e, f) refl

-- what bytes are read as is a text
chars-text : (bytes : List ℕ) → nat_le (length bytes) most_bytes ≡ true → is_utf8 bytes ≡ true → IsText (chars bytes)
chars-text bytes short e =
    let utf8 = IsUtf8-from_is_utf8 bytes e in
    let within = leb-true (length bytes) 65536 short in
    let size : text_size (chars bytes) ≡ length bytes = ap length (encodes-chars bytes utf8) in
    record { scalars = scalars-chars bytes utf8; size = omega arith }

pub text_of-text : (bytes text : List ℕ) → text_of bytes ≡ Ok text → IsText text
text_of-text bytes text read = go (nat_le (length bytes) most_bytes) (is_utf8 bytes) refl refl read
  where
    go : (short utf8 : Bool) → nat_le (length bytes) most_bytes ≡ short → is_utf8 bytes ≡ utf8 → cond short (cond utf8 (Ok (chars bytes)) (Err errors.NotUtf8)) (Err errors.TooLong) ≡ Ok text → IsText text
    go false utf8 a b e = cc
    go true false a b e = cc
    go true true a b e = let same : chars bytes ≡ text = cc in subst IsText same (chars-text bytes a b)

-- texts are the same where their bytes are
pub bytes_eq-chars : (a b : List ℕ) → IsUtf8 a → IsUtf8 b → bytes_eq a b ≡ bytes_eq (chars a) (chars b)
bytes_eq-chars a b ua ub =
    same_from_decides (bytes_eq a b) (bytes_eq (chars a) (chars b))
    (Decides-like (bytes_eq a b) (λ e. ap chars e) (λ (e : chars a ≡ chars b). sym (encodes-chars a ua) ∙ ap encode_utf8_all e ∙ encodes-chars b ub) (bytes_eq-Decides a b))
    (bytes_eq-Decides (chars a) (chars b))

-- ASCII bytes are UTF-8
all_ascii : (bytes : List ℕ) → list_all is_ascii bytes ≡ true → IsAscii bytes
all_ascii [] e = IsAscii-nil
all_ascii (b ∷ bs) e = let parts = and_parts (is_ascii b) (list_all is_ascii bs) e in IsAscii-cons b bs (ltb-true b 128 parts.0) (all_ascii bs parts.1)

pub ascii-utf8 : (bytes : List ℕ) → list_all is_ascii bytes ≡ true → IsUtf8 bytes
ascii-utf8 bytes e = IsUtf8-from_ascii bytes (all_ascii bytes e)
