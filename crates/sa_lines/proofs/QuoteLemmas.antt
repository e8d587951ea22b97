-- Hexadecimal digits, the pieces of a text by its bytes, and a quoted text piece by piece.
use Rattle.std.proofs.Common.{◌≡◌, ℕ, zero, suc, ◌+◌, ◌-◌, ◌*◌, ◌^◌, ◌<◌, ◌≤◌, nat_lt, true, false, List, [], ◌∷◌, ◌++◌, length, get_or, Option, Some, None, option_map, encode_utf8, encode_utf8_all, IsUtf8, refl, sym, ap, ap₂, subst, ◌∙◌, inl, inr, arith, if◌then◌else◌, append-nil, append_assoc, ne_eqb, le-ltb, lt-ltb}
use Rattle.std.specs.Io.{StartsWith}
use Rattle.std.specs.List.{flat_map, list_all}
use Rattle.std.specs.Str.{chars}
use Rattle.std.proofs.lemmas.Bool.{and_from, cases_lt}
use Rattle.std.proofs.lemmas.Bool.Decides.{nat_tests}
use Rattle.std.proofs.lemmas.List.{length-take, take-append-le, take_at}
use Rattle.std.proofs.lemmas.List.Concat.{flat_map-append}
use Rattle.std.proofs.lemmas.Str.{encode_ascii, encodes-chars, inside_one}
use Rattle.sa_lines.specs.Options.{in_front}
use Rattle.sa_lines.specs.Quotes.{hex_value, piece, piece_at, pieces_at, quoted_at}
use Rattle.sa_runs.specs.Runs.{is_plain}
use Rattle.sa_lines.proofs.PlainLemmas.{plain_first, plain_later, plain_no_mark, plain_no_backslash, plain_high, plain_large, marked_small}

-- one more digit behind a number leaves it below the power of 16 that the digits so far make
pub hex_room : (left value d : ℕ) → 0 < left → left ≤ 5 → value < 16 ^ (6 - left) → d < 16 → value * 16 + d < 16 ^ (6 - (left - 1))
hex_room zero value d h few small digit = absurd (omega arith)
hex_room (suc zero) value d h few small digit = omega arith
hex_room (suc (suc zero)) value d h few small digit = omega arith
hex_room (suc (suc (suc zero))) value d h few small digit = omega arith
hex_room (suc (suc (suc (suc zero)))) value d h few small digit = omega arith
hex_room (suc (suc (suc (suc (suc zero))))) value d h few small digit = omega arith
hex_room (suc (suc (suc (suc (suc (suc left)))))) value d h few small digit = absurd (omega arith)

-- the number that up to six digits make fits 24 bits
pub hex_fits : (left value d : ℕ) → 0 < left → left ≤ 5 → value < 16 ^ (6 - left) → d < 16 → value * 16 + d < 2 ^ 24
hex_fits zero value d h few small digit = absurd (omega arith)
hex_fits (suc zero) value d h few small digit = omega arith
hex_fits (suc (suc zero)) value d h few small digit = omega arith
hex_fits (suc (suc (suc zero))) value d h few small digit = omega arith
hex_fits (suc (suc (suc (suc zero)))) value d h few small digit = omega arith
hex_fits (suc (suc (suc (suc (suc zero))))) value d h few small digit = omega arith
hex_fits (suc (suc (suc (suc (suc (suc left)))))) value d h few small digit = absurd (omega arith)

-- a digit is below 16
pub hex_value-small : (b d : ℕ) → hex_value b ≡ Some d → d < 16
hex_value-small b d e = grind (arith, nat_tests)

-- a byte of a text as it is written
abbrev pub byte_piece : ℕ → List ℕ
byte_piece b = if nat_lt b 128 then piece b else b ∷ []

-- a code point that is written as it is, and a byte
pub piece-plain : (c : ℕ) → is_plain c ≡ true → piece c ≡ encode_utf8 c
piece-plain c h = rw h refl

byte_piece-plain : (b : ℕ) → is_plain b ≡ true → byte_piece b ≡ b ∷ []
byte_piece-plain b h = elim (cases_lt b 128) [
  | inl small ↦ let test = lt-ltb b 128 small in rw test (piece-plain b h ∙ encode_ascii b small)
  | inr large ↦ let test = le-ltb b 128 large in rw test refl
]

pub byte_piece-marked : (b : ℕ) → is_plain b ≡ false → byte_piece b ≡ piece b
byte_piece-marked b h = let test = lt-ltb b 128 (marked_small b h) in rw test refl

-- a run is written as it is
pub run_pieces : (run : List ℕ) → list_all is_plain run ≡ true → flat_map byte_piece run ≡ run
run_pieces [] h = refl
run_pieces (b ∷ bs) h = ap₂ (λ (x y : List ℕ). x ++ y) (byte_piece-plain b (plain_first b bs h)) (run_pieces bs (plain_later b bs h))

-- no byte of a code point beyond ASCII is below 128
pub encode_utf8-high : (c k : ℕ) → 128 ≤ c → k < length (encode_utf8 c) → 128 ≤ get_or (encode_utf8 c) k 0
encode_utf8-high c k large below = elim (cases_lt (get_or (encode_utf8 c) k 0) 128) [
  | inl small ↦ absurd (omega (arith, inside_one c [] (encode_utf8 c) k (sym (append-nil (encode_utf8 c))) below small))
  | inr high ↦ high
]

-- bytes from 128 on are a run
high_run : (bs : List ℕ) → ((k : ℕ) → k < length bs → 128 ≤ get_or bs k 0) → list_all is_plain bs ≡ true
high_run [] h = refl
high_run (b ∷ bs) h = and_from (is_plain b) (list_all is_plain bs) (plain_large b (h 0 (omega arith))) (high_run bs (λ k p. h (suc k) (omega arith)))

pub point_run : (c : ℕ) → 128 ≤ c → list_all is_plain (encode_utf8 c) ≡ true
point_run c large = high_run (encode_utf8 c) (λ k below. encode_utf8-high c k large below)

-- the bytes of a code point, written one by one
point_pieces : (c : ℕ) → flat_map byte_piece (encode_utf8 c) ≡ piece c
point_pieces c = elim (cases_lt c 128) [
  | inl small ↦
      let test = lt-ltb c 128 small in
      ap (flat_map byte_piece) (encode_ascii c small) ∙ (append-nil (byte_piece c) ∙ rw test refl)
  | inr large ↦ run_pieces (encode_utf8 c) (point_run c large) ∙ sym (piece-plain c (plain_large c large))
]

encoded_pieces : (cs : List ℕ) → flat_map byte_piece (encode_utf8_all cs) ≡ flat_map piece cs
encoded_pieces [] = refl
encoded_pieces (c ∷ cs) = flat_map-append byte_piece (encode_utf8 c) (encode_utf8_all cs) ∙ ap₂ (λ (x y : List ℕ). x ++ y) (point_pieces c) (encoded_pieces cs)

-- a text is written byte by byte as it is code point by code point
pub text_pieces : (bytes : List ℕ) → IsUtf8 bytes → flat_map byte_piece bytes ≡ flat_map piece (chars bytes)
text_pieces bytes utf8 = ap (flat_map byte_piece) (sym (encodes-chars bytes utf8)) ∙ encoded_pieces (chars bytes)

-- more bytes behind those that stood there
pub begins_still : (bytes more front : List ℕ) → StartsWith bytes front → StartsWith (bytes ++ more) front
begins_still bytes more front h = take-append-le (length front) bytes more (omega (arith, ap length h, length-take (length front) bytes)) ∙ h

pub begins_itself : (bytes more : List ℕ) → StartsWith (bytes ++ more) bytes
begins_itself bytes more = take_at bytes more (length bytes) refl

-- what is in front of what was read, in two steps
pub in_front-nil : (read : Option (List ℕ × List ℕ)) → option_map (in_front []) read ≡ read
in_front-nil None = refl
in_front-nil (Some r) = refl

pub in_front-twice : (a b : List ℕ) (read : Option (List ℕ × List ℕ)) → option_map (in_front a) (option_map (in_front b) read) ≡ option_map (in_front (a ++ b)) read
in_front-twice a b None = refl
in_front-twice a b (Some r) = ap (λ xs. Some (xs, r.1)) (sym (append_assoc a b r.0))

-- a closing quotation mark, the end of the bytes, and a byte that begins no piece
pub pieces_at-end : (left : ℕ) (bs : List ℕ) → 0 < left → pieces_at left (34 ∷ bs) ≡ Some ([], bs)
pieces_at-end zero bs some = absurd (omega arith)
pieces_at-end (suc left) bs some = refl

pub pieces_at-nil : (left : ℕ) → pieces_at left [] ≡ None
pieces_at-nil zero = refl
pieces_at-nil (suc left) = refl

pieces_at-none : (left b : ℕ) (bs : List ℕ) → (b ≡ 34 → ⊥) → piece_at b bs ≡ None → pieces_at left (b ∷ bs) ≡ None
pieces_at-none zero b bs other none = refl
pieces_at-none (suc left) b bs other none = let mark = ne_eqb b 34 other in rw (mark, none) refl

-- a piece, and those after it
pub pieces_at-more : (left b : ℕ) (bs part rest : List ℕ) → (b ≡ 34 → ⊥) → piece_at b bs ≡ Some (part, rest) → pieces_at (suc left) (b ∷ bs) ≡ option_map (in_front part) (pieces_at left rest)
pieces_at-more left b bs part rest other read = let mark = ne_eqb b 34 other in rw (mark, read) refl

-- the bytes so far in front of what a piece and those after it stand for
pub in_front-piece : (out : List ℕ) (left b : ℕ) (bs part rest : List ℕ) → 0 < left → (b ≡ 34 → ⊥) → piece_at b bs ≡ Some (part, rest) → option_map (in_front out) (pieces_at left (b ∷ bs)) ≡ option_map (in_front (out ++ part)) (pieces_at (left - 1) rest)
in_front-piece out zero b bs part rest some other read = absurd (omega arith)
in_front-piece out (suc left) b bs part rest some other read =
    let later : left ≡ suc left - 1 = omega arith in
    ap (option_map (in_front out)) (pieces_at-more left b bs part rest other read) ∙ (in_front-twice out part (pieces_at left rest) ∙ ap (λ n. option_map (in_front (out ++ part)) (pieces_at n rest)) later)

-- bytes that are read whole at the closing quotation mark
pub in_front-end : (out : List ℕ) (left : ℕ) (bs : List ℕ) → 0 < left → option_map (in_front out) (pieces_at left (34 ∷ bs)) ≡ Some (out, bs)
in_front-end out left bs some = ap (option_map (in_front out)) (pieces_at-end left bs some) ∙ ap (λ xs. Some (xs, bs)) (append-nil out)

-- what stands inside the quotation marks: no control byte, an escape, and each other byte for itself
pub piece_at-control : (b : ℕ) (bs : List ℕ) → b < 32 → piece_at b bs ≡ None
piece_at-control b bs low =
    let backslash = ne_eqb b 92 (omega arith) in
    let control = lt-ltb b 32 low in
    rw (backslash, control) refl

pub piece_at-byte : (b : ℕ) (bs : List ℕ) → (b ≡ 92 → ⊥) → 32 ≤ b → piece_at b bs ≡ Some (b ∷ [], bs)
piece_at-byte b bs other high =
    let backslash = ne_eqb b 92 other in
    let control = le-ltb b 32 high in
    rw (backslash, control) refl

-- the bytes read so far, in front of what the pieces that are left stand for, are the whole
pub record Still (out rest : List ℕ) (whole : Option (List ℕ × List ℕ)) : Type 0 where
  pub left : ℕ
  pub enough : length rest ≤ left
  pub same : option_map (in_front out) (pieces_at left rest) ≡ whole

pub still_as : (out xs rest ys : List ℕ) (whole : Option (List ℕ × List ℕ)) → out ≡ xs → rest ≡ ys → Still out rest whole → Still xs ys whole
still_as out xs rest ys whole e f h = subst (λ zs. Still zs ys whole) e (subst (λ zs. Still out zs whole) f h)

pub still_piece : (out : List ℕ) (b : ℕ) (bs part rest : List ℕ) (whole : Option (List ℕ × List ℕ)) → (b ≡ 34 → ⊥) → piece_at b bs ≡ Some (part, rest) → length rest ≤ length bs → Still out (b ∷ bs) whole → Still (out ++ part) rest whole
still_piece out b bs part rest whole other read shorter h =
    let enough = h.enough in
    let on = in_front-piece out h.left b bs part rest (omega arith) other read in
    record {
      left = h.left - 1;
      enough = omega arith;
      same = sym on ∙ h.same;
    }

-- a run further
pub still_run : (out run rest : List ℕ) (whole : Option (List ℕ × List ℕ)) → list_all is_plain run ≡ true → Still out (run ++ rest) whole → Still (out ++ run) rest whole
still_run out [] rest whole plain h = subst (λ xs. Still xs rest whole) (sym (append-nil out)) h
still_run out (b ∷ bs) rest whole plain h =
    let here = plain_first b bs plain in
    let one = still_piece out b (bs ++ rest) (b ∷ []) (bs ++ rest) whole (plain_no_mark b here) (piece_at-byte b (bs ++ rest) (plain_no_backslash b here) (plain_high b here)) (omega arith) h in
    subst (λ xs. Still xs rest whole) (append_assoc out (b ∷ []) bs) (still_run (out ++ b ∷ []) bs rest whole (plain_later b bs plain) one)

-- the bytes behind a run, where the run was put behind those read so far
pub still_on : (out run behind rest new next : List ℕ) (whole : Option (List ℕ × List ℕ)) → rest ≡ run ++ behind → list_all is_plain run ≡ true → new ≡ out ++ run → behind ≡ next → Still out rest whole → Still new next whole
still_on out run behind rest new next whole cut plain written is h =
    still_as (out ++ run) new behind next whole (sym written) is (still_run out run behind whole plain (still_as out out rest (run ++ behind) whole refl cut h))

-- the closing quotation mark, the end of the bytes, and a byte that begins no piece
pub still_end : (out bs : List ℕ) (whole : Option (List ℕ × List ℕ)) → Still out (34 ∷ bs) whole → Some (out, bs) ≡ whole
still_end out bs whole h = let enough = h.enough in sym (in_front-end out h.left bs (omega arith)) ∙ h.same

pub still_nil : (out : List ℕ) (whole : Option (List ℕ × List ℕ)) → Still out [] whole → None ≡ whole
still_nil out whole h = sym (ap (option_map (in_front out)) (pieces_at-nil h.left)) ∙ h.same

pub still_none : (out : List ℕ) (b : ℕ) (bs : List ℕ) (whole : Option (List ℕ × List ℕ)) → (b ≡ 34 → ⊥) → piece_at b bs ≡ None → Still out (b ∷ bs) whole → None ≡ whole
still_none out b bs whole other none h = sym (ap (option_map (in_front out)) (pieces_at-none h.left b bs other none)) ∙ h.same

-- the beginning
pub still_begun : (out bytes text : List ℕ) → out ≡ [] → bytes ≡ 34 ∷ text → Still out text (quoted_at bytes)
still_begun out bytes text none cut =
    record {
      left = length text;
      enough = omega arith;
      same = ap (λ xs. option_map (in_front xs) (pieces_at (length text) text)) none ∙ (in_front-nil (pieces_at (length text) text) ∙ ap quoted_at (sym cut));
    }

-- a text that is a run and its closing quotation mark
pub quoted_at-run : (run rest : List ℕ) → list_all is_plain run ≡ true → quoted_at (34 ∷ (run ++ 34 ∷ rest)) ≡ Some (run, rest)
quoted_at-run run rest plain =
    let text : List ℕ = run ++ 34 ∷ rest in
    sym (still_end run rest (quoted_at (34 ∷ text)) (still_run [] run (34 ∷ rest) (quoted_at (34 ∷ text)) plain (still_begun [] (34 ∷ text) text refl refl)))

pub quoted_at-cut : (bytes text run behind rest : List ℕ) → bytes ≡ 34 ∷ text → text ≡ run ++ behind → behind ≡ 34 ∷ rest → list_all is_plain run ≡ true → quoted_at bytes ≡ Some (run, rest)
quoted_at-cut bytes text run behind rest begun cut closed plain =
    ap quoted_at (begun ∙ ap (λ xs. 34 ∷ xs) (cut ∙ ap (λ xs. run ++ xs) closed)) ∙ quoted_at-run run rest plain

-- what a text comes to, piece by piece, where runs are written whole
pub pieces_on : (run behind rest : List ℕ) (b : ℕ) (others : List ℕ) → rest ≡ run ++ behind → list_all is_plain run ≡ true → behind ≡ b ∷ others → is_plain b ≡ false → flat_map byte_piece rest ≡ run ++ (piece b ++ flat_map byte_piece others)
pieces_on run behind rest b others cut plain is marked =
    ap (flat_map byte_piece) (cut ∙ ap (λ xs. run ++ xs) is)
    ∙ (flat_map-append byte_piece run (b ∷ others) ∙ ap₂ (λ (x y : List ℕ). x ++ (y ++ flat_map byte_piece others)) (run_pieces run plain) (byte_piece-marked b marked))

pub pieces_end : (run behind rest : List ℕ) → rest ≡ run ++ behind → list_all is_plain run ≡ true → behind ≡ [] → flat_map byte_piece rest ≡ run
pieces_end run behind rest cut plain none = ap (flat_map byte_piece) (cut ∙ (ap (λ xs. run ++ xs) none ∙ append-nil run)) ∙ run_pieces run plain
