-- A text that was quoted is read again as it was, and so is a code point by its number.
use Rattle.std.proofs.Common.{◌≡◌, ℕ, zero, suc, ◌+◌, ◌-◌, ◌*◌, ◌/◌, ◌%◌, ◌<◌, ◌≤◌, true, false, List, [], ◌∷◌, ◌++◌, length, Some, option_map, is_some, encode_utf8, encode_utf8_all, refl, sym, ap, subst, ◌∙◌, inl, inr, arith, append_assoc, append-nil, length-append, ne_eqb, le-ltb, lt-ltb}
use Rattle.std.specs.Char.{digit_char, digit_value}
use Rattle.std.specs.List.{flat_map, list_all}
use Rattle.std.specs.Str.Parse.{digits_value, digits_value_after}
use Rattle.std.proofs.Math.Utf8.{scalar, low_scalar}
use Rattle.std.proofs.lemmas.Bool.{cases_Bool, cases_lt, cases_eq, and_parts, and_from, false≢true}
use Rattle.std.proofs.lemmas.Bool.Decides.{nat_tests}
use Rattle.std.proofs.lemmas.Str.{encode_ascii, digit_value-digit_char}
use Rattle.sa_runs.specs.Runs.{is_plain}
use Rattle.sa_lines.specs.Laws.{QuotedAgain, NumberedAgain, AreHexDigits, numbered_piece}
use Rattle.sa_lines.specs.Options.{in_front}
use Rattle.sa_lines.specs.Quotes.{hex_value, hex_at, scalar_at, piece, piece_at, pieces_at}
use Rattle.sa_lines.proofs.PlainLemmas.{plain_first, plain_later, plain_no_mark, plain_no_backslash, plain_high}
use Rattle.sa_lines.proofs.QuoteLemmas.{piece-plain, piece_at-byte, pieces_at-end, pieces_at-more, in_front-twice, in_front-nil, point_run}

-- a lower-case hexadecimal digit is read as its value, and is no closing brace
hex_value-digit : (b : ℕ) → is_some (hex_value b) ≡ true → hex_value b ≡ Some (digit_value b)
hex_value-digit b h = grind (arith, nat_tests)

hex_no_brace : (b : ℕ) → is_some (hex_value b) ≡ true → b ≡ 125 → ⊥
hex_no_brace b h e = false≢true (sym (ap (λ n. is_some (hex_value n)) e) ∙ h)

is_hex-digit_char : (d : ℕ) → d < 16 → is_some (hex_value (digit_char d)) ≡ true
is_hex-digit_char d small = grind (arith, nat_tests)

-- digits and a closing brace
hex_at-digit : (left value b d : ℕ) (bs : List ℕ) → (b ≡ 125 → ⊥) → hex_value b ≡ Some d → hex_at (suc left) value (b ∷ bs) ≡ hex_at left (value * 16 + d) bs
hex_at-digit left value b d bs h digit = let other = ne_eqb b 125 h in rw (other, digit) refl

hex_at-brace : (left value : ℕ) (tail : List ℕ) → hex_at left value (125 ∷ tail) ≡ Some (value, tail)
hex_at-brace zero value tail = refl
hex_at-brace (suc left) value tail = refl

hex_at-digits : (left value : ℕ) (ds tail : List ℕ) → length ds ≤ left → list_all (λ d. is_some (hex_value d)) ds ≡ true → hex_at left value (ds ++ 125 ∷ tail) ≡ Some (digits_value_after 16 value ds, tail)
hex_at-digits left value [] tail few all = hex_at-brace left value tail
hex_at-digits zero value (d ∷ ds) tail few all = absurd (omega arith)
hex_at-digits (suc left) value (d ∷ ds) tail few all =
    let parts = and_parts (is_some (hex_value d)) (list_all (λ e. is_some (hex_value e)) ds) all in
    hex_at-digit left value d (digit_value d) (ds ++ 125 ∷ tail) (hex_no_brace d parts.0) (hex_value-digit d parts.0)
    ∙ hex_at-digits left (value * 16 + digit_value d) ds tail (omega arith) parts.1

-- a number in braces
scalar_at-reads : (digit first number : ℕ) (bs tail : List ℕ) → hex_value digit ≡ Some first → hex_at 5 first bs ≡ Some (number, tail) → scalar number ≡ true → scalar_at (123 ∷ digit ∷ bs) ≡ Some (encode_utf8 number, tail)
scalar_at-reads digit first number bs tail begun read low = rw (begun, read, low) refl

scalar_at-digits : (digits tail : List ℕ) → AreHexDigits digits → scalar (digits_value 16 digits) ≡ true → scalar_at (123 ∷ (digits ++ 125 ∷ tail)) ≡ Some (encode_utf8 (digits_value 16 digits), tail)
scalar_at-digits [] tail h low = let some = h.some in absurd (omega arith)
scalar_at-digits (d ∷ ds) tail h low =
    let parts = and_parts (is_some (hex_value d)) (list_all (λ e. is_some (hex_value e)) ds) h.all in
    let few = h.few in
    let first : digit_value d ≡ 0 * 16 + digit_value d = omega arith in
    let read = ap (λ n. hex_at 5 n (ds ++ 125 ∷ tail)) first ∙ hex_at-digits 5 (0 * 16 + digit_value d) ds tail (omega arith) parts.1 in
    scalar_at-reads d (digit_value d) (digits_value 16 (d ∷ ds)) (ds ++ 125 ∷ tail) tail (hex_value-digit d parts.0) read low

-- bytes that are read as what they mean, and the pieces that are then left
record Reads (left : ℕ) (written meant tail : List ℕ) : Type 0 where
  later : ℕ
  enough : left ≤ later + length written
  same : pieces_at left (written ++ tail) ≡ option_map (in_front meant) (pieces_at later tail)

reads_nothing : (left : ℕ) (tail : List ℕ) → Reads left [] [] tail
reads_nothing left tail = record { later = left; enough = omega arith; same = sym (in_front-nil (pieces_at left tail)) }

-- bytes, and others behind them
reads_then : (left : ℕ) (w v m n tail : List ℕ) (first : Reads left w m (v ++ tail)) → Reads first.later v n tail → Reads left (w ++ v) (m ++ n) tail
reads_then left w v m n tail first second =
    let enough = first.enough in
    let more = second.enough in
    record {
      later = second.later;
      enough = omega (arith, length-append w v);
      same = ap (pieces_at left) (append_assoc w v tail) ∙ (first.same ∙ (ap (option_map (in_front m)) second.same ∙ in_front-twice m n (pieces_at second.later tail)));
    }

-- one piece
reads_piece : (left b : ℕ) (bs meant tail : List ℕ) → length (b ∷ bs) ≤ left → (b ≡ 34 → ⊥) → piece_at b (bs ++ tail) ≡ Some (meant, tail) → Reads left (b ∷ bs) meant tail
reads_piece left b bs meant tail long other read =
    let n : ℕ = left - 1 in
    let some : left ≡ suc n = omega arith in
    record {
      later = n;
      enough = omega arith;
      same = ap (λ m. pieces_at m (b ∷ (bs ++ tail))) some ∙ pieces_at-more n b (bs ++ tail) meant tail other read;
    }

-- a run stands for itself
reads_run : (left : ℕ) (run tail : List ℕ) → length run ≤ left → list_all is_plain run ≡ true → Reads left run run tail
reads_run left [] tail long plain = reads_nothing left tail
reads_run left (b ∷ bs) tail long plain =
    let here = plain_first b bs plain in
    let one = reads_piece left b [] (b ∷ []) (bs ++ tail) (omega arith) (plain_no_mark b here) (piece_at-byte b (bs ++ tail) (plain_no_backslash b here) (plain_high b here)) in
    let enough = one.enough in
    reads_then left (b ∷ []) bs (b ∷ []) bs tail one (reads_run one.later bs tail (omega arith) (plain_later b bs plain))

-- a code point by its number
reads_numbered : (left : ℕ) (digits tail : List ℕ) → length (numbered_piece digits) ≤ left → AreHexDigits digits → scalar (digits_value 16 digits) ≡ true → Reads left (numbered_piece digits) (encode_utf8 (digits_value 16 digits)) tail
reads_numbered left digits tail long h low =
    let read = ap (λ bs. scalar_at (123 ∷ bs)) (append_assoc digits (125 ∷ []) tail) ∙ scalar_at-digits digits tail h low in
    reads_piece left 92 (117 ∷ 123 ∷ (digits ++ 125 ∷ [])) (encode_utf8 (digits_value 16 digits)) tail long (omega arith) read

-- a code point that is written as these digits of its number
reads_as : (left c : ℕ) (digits tail : List ℕ) → length (piece c) ≤ left → piece c ≡ numbered_piece digits → AreHexDigits digits → digits_value 16 digits ≡ c → scalar c ≡ true → Reads left (piece c) (encode_utf8 c) tail
reads_as left c digits tail long is h value low =
    let low_value = ap scalar value ∙ low in
    let numbered = reads_numbered left digits tail (omega (arith, ap length is)) h low_value in
    subst (λ n. Reads left (piece c) (encode_utf8 n) tail) value (subst (λ w. Reads left w (encode_utf8 (digits_value 16 digits)) tail) (sym is) numbered)

-- a control character is written by one digit, or by two
piece-short : (c : ℕ) → c < 16 → piece c ≡ numbered_piece (digit_char c ∷ [])
piece-short c short =
    let mark = ne_eqb c 34 (omega arith) in
    let backslash = ne_eqb c 92 (omega arith) in
    let delete = ne_eqb c 127 (omega arith) in
    let control = lt-ltb c 32 (omega arith) in
    let one = lt-ltb c 16 short in
    let digit : c / 1 % 16 ≡ c = omega arith in
    rw (mark, backslash, delete, control, one, digit) refl

piece-two : (c : ℕ) → 16 ≤ c → c < 32 → piece c ≡ numbered_piece (49 ∷ digit_char (c - 16) ∷ [])
piece-two c high low =
    let mark = ne_eqb c 34 (omega arith) in
    let backslash = ne_eqb c 92 (omega arith) in
    let delete = ne_eqb c 127 (omega arith) in
    let control = lt-ltb c 32 low in
    let one = le-ltb c 16 high in
    let two = lt-ltb c 256 (omega arith) in
    let first : c / 16 % 16 ≡ 1 = omega arith in
    let second : c / 1 % 16 ≡ c - 16 = omega arith in
    rw (mark, backslash, delete, control, one, two, first, second) refl

hex_one : (d : ℕ) → d < 16 → AreHexDigits (digit_char d ∷ [])
hex_one d small = record { some = omega arith; few = omega arith; all = and_from (is_some (hex_value (digit_char d))) true (is_hex-digit_char d small) refl }

hex_two : (d : ℕ) → d < 16 → AreHexDigits (49 ∷ digit_char d ∷ [])
hex_two d small = record { some = omega arith; few = omega arith; all = and_from (is_some (hex_value (digit_char d))) true (is_hex-digit_char d small) refl }

reads_control : (left c : ℕ) (tail : List ℕ) → length (piece c) ≤ left → c < 32 → Reads left (piece c) (encode_utf8 c) tail
reads_control left c tail long low = elim (cases_lt c 16) [
  | inl short ↦
      let value : digits_value 16 (digit_char c ∷ []) ≡ c = omega (arith, digit_value-digit_char c (omega arith)) in
      reads_as left c (digit_char c ∷ []) tail long (piece-short c short) (hex_one c short) value (low_scalar c (omega arith))
  | inr two ↦
      let value : digits_value 16 (49 ∷ digit_char (c - 16) ∷ []) ≡ c = omega (arith, digit_value-digit_char (c - 16) (omega arith)) in
      reads_as left c (49 ∷ digit_char (c - 16) ∷ []) tail long (piece-two c two low) (hex_two (c - 16) (omega arith)) value (low_scalar c (omega arith))
]

reads_delete : (left : ℕ) (tail : List ℕ) → length (piece 127) ≤ left → Reads left (piece 127) (encode_utf8 127) tail
reads_delete left tail long = reads_as left 127 (55 ∷ 102 ∷ []) tail long refl (record { some = omega arith; few = omega arith; all = refl }) refl (low_scalar 127 (omega arith))

reads_mark : (left : ℕ) (tail : List ℕ) → length (piece 34) ≤ left → Reads left (piece 34) (encode_utf8 34) tail
reads_mark left tail long = reads_piece left 92 (34 ∷ []) (encode_utf8 34) tail long (omega arith) (ap (λ xs. Some (xs, tail)) (sym (encode_ascii 34 (omega arith))))

reads_backslash : (left : ℕ) (tail : List ℕ) → length (piece 92) ≤ left → Reads left (piece 92) (encode_utf8 92) tail
reads_backslash left tail long = reads_piece left 92 (92 ∷ []) (encode_utf8 92) tail long (omega arith) (ap (λ xs. Some (xs, tail)) (sym (encode_ascii 92 (omega arith))))

-- a plain code point is one plain byte, or bytes from 128 on
plain_run : (c : ℕ) → is_plain c ≡ true → list_all is_plain (encode_utf8 c) ≡ true
plain_run c h = elim (cases_lt c 128) [
  | inl small ↦ ap (list_all is_plain) (encode_ascii c small) ∙ and_from (is_plain c) true h refl
  | inr large ↦ point_run c large
]

reads_plain : (left c : ℕ) (tail : List ℕ) → length (piece c) ≤ left → is_plain c ≡ true → Reads left (piece c) (encode_utf8 c) tail
reads_plain left c tail long h =
    let is = piece-plain c h in
    subst (λ w. Reads left w (encode_utf8 c) tail) (sym is) (reads_run left (encode_utf8 c) tail (omega (arith, ap length is)) (plain_run c h))

-- a code point that is not plain, by how it is written
marked_delete : (c : ℕ) → is_plain c ≡ false → 32 ≤ c → (c ≡ 34 → ⊥) → (c ≡ 92 → ⊥) → c ≡ 127
marked_delete c h high mark backslash = grind (arith, nat_tests)

reads_marked : (left c : ℕ) (tail : List ℕ) → length (piece c) ≤ left → is_plain c ≡ false → Reads left (piece c) (encode_utf8 c) tail
reads_marked left c tail long h = elim (cases_lt c 32) [
  | inl low ↦ reads_control left c tail long low
  | inr high ↦ elim (cases_eq c 34) [
    | inl same ↦ subst (λ n. length (piece n) ≤ left → Reads left (piece n) (encode_utf8 n) tail) (sym same) (reads_mark left tail) long
    | inr mark ↦ elim (cases_eq c 92) [
      | inl same ↦ subst (λ n. length (piece n) ≤ left → Reads left (piece n) (encode_utf8 n) tail) (sym same) (reads_backslash left tail) long
      | inr backslash ↦ subst (λ n. length (piece n) ≤ left → Reads left (piece n) (encode_utf8 n) tail) (sym (marked_delete c h high mark backslash)) (reads_delete left tail) long
    ]
  ]
]

reads_point : (left c : ℕ) (tail : List ℕ) → length (piece c) ≤ left → Reads left (piece c) (encode_utf8 c) tail
reads_point left c tail long = elim (cases_Bool (is_plain c)) [ inl t ↦ reads_plain left c tail long t | inr f ↦ reads_marked left c tail long f ]

-- a text
reads_text : (left : ℕ) (text tail : List ℕ) → length (flat_map piece text) ≤ left → Reads left (flat_map piece text) (encode_utf8_all text) tail
reads_text left [] tail long = reads_nothing left tail
reads_text left (c ∷ cs) tail long =
    let count = length-append (piece c) (flat_map piece cs) in
    let point = reads_point left c (flat_map piece cs ++ tail) (omega arith) in
    let enough = point.enough in
    reads_then left (piece c) (flat_map piece cs) (encode_utf8 c) (encode_utf8_all cs) tail point (reads_text point.later cs tail (omega arith))

-- up to the closing quotation mark
reads_closed : (left : ℕ) (written meant rest : List ℕ) → Reads left written meant (34 ∷ rest) → length written < left → pieces_at left (written ++ 34 ∷ rest) ≡ Some (meant, rest)
reads_closed left written meant rest reads long =
    let enough = reads.enough in
    reads.same ∙ (ap (option_map (in_front meant)) (pieces_at-end reads.later rest (omega arith)) ∙ ap (λ xs. Some (xs, rest)) (append-nil meant))

pub quoted_again : QuotedAgain
quoted_again text rest all =
    let front : List ℕ = flat_map piece text in
    let whole = append_assoc front (34 ∷ []) rest in
    let left : ℕ = length ((front ++ 34 ∷ []) ++ rest) in
    let long : length front < left = simp length-append (omega arith) in
    ap (pieces_at left) whole ∙ reads_closed left front (encode_utf8_all text) rest (reads_text left text (34 ∷ rest) (omega arith)) long

pub numbered_again : NumberedAgain
numbered_again digits front behind rest h low first last =
    let f : List ℕ = flat_map piece front in
    let n : List ℕ = numbered_piece digits in
    let b : List ℕ = flat_map piece behind in
    let point : List ℕ = encode_utf8 (digits_value 16 digits) in
    let whole : f ++ (n ++ (b ++ 34 ∷ rest)) ≡ (f ++ (n ++ b)) ++ 34 ∷ rest = simp append_assoc in
    let left : ℕ = length (f ++ (n ++ (b ++ 34 ∷ rest))) in
    let long : length f + (length n + length b) < left = simp length-append (omega arith) in
    let one = reads_text left front ((n ++ b) ++ 34 ∷ rest) (omega arith) in
    let one_enough = one.enough in
    let two = reads_numbered one.later digits (b ++ 34 ∷ rest) (omega arith) h low in
    let two_enough = two.enough in
    let three = reads_text two.later behind (34 ∷ rest) (omega arith) in
    let all = reads_then left f (n ++ b) (encode_utf8_all front) (point ++ encode_utf8_all behind) (34 ∷ rest) one (reads_then one.later n b point (encode_utf8_all behind) (34 ∷ rest) two three) in
    ap (pieces_at left) whole ∙ reads_closed left (f ++ (n ++ b)) (encode_utf8_all front ++ (point ++ encode_utf8_all behind)) rest all (simp length-append (omega arith))
