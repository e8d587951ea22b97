-- Tokens of a sample's lines: each is read as it was written.
use Rattle.std.proofs.Common.{◌≡◌, ℕ, zero, suc, ◌<◌, nat_lt, nat_le, Bool, true, false, ◌&&◌, List, [], ◌∷◌, length, Some, refl, ◌∙◌, arith, IsUtf8}
use Rattle.std.specs.List.{AllByRecursion, list_all}
use Rattle.std.specs.Str.{IsAscii}
use Rattle.std.proofs.Math.Utf8.{encode}
use Rattle.std.proofs.lemmas.Bool.{and_parts, and_from, ltb-true, le-leb, ne_eqb}
use Rattle.std.proofs.lemmas.List.Folds.{list_all-append}
use Rattle.std.proofs.lemmas.Str.{IsUtf8-append, IsUtf8-from_ascii, is_utf8-from_IsUtf8}
use Rattle.sa_lines.specs.Laws.{IsToken, IsWithoutControls}
use Rattle.sa_lines.specs.Lines.{is_skipped}
use Rattle.sa_lines.specs.Tokens.{Inside, leads, joined}
use Rattle.sa_lines.proofs.LawLemmas.{tokens_again}
use Rattle.sa_script.specs.declared.context.Context.{Context}
use Rattle.sa_script.specs.Scripts.{line_after, statement_after}
use Rattle.sa_script.specs.Statements.{statement_of}

-- a whole token of UTF-8 without controls
pub record IsGood (token : List ℕ) : Type 0 where
  pub whole : IsToken token
  pub plain : IsWithoutControls token
  pub utf8 : IsUtf8 token

-- a byte above the quotation mark and below 128
abbrev pub is_inner : ℕ → Bool
is_inner b = nat_lt 34 b && nat_lt b 128

inner-bounds : (b : ℕ) → is_inner b ≡ true → (34 < b) × (b < 128)
inner-bounds b h = let parts = and_parts (nat_lt 34 b) (nat_lt b 128) h in (ltb-true 34 b parts.0, ltb-true b 128 parts.1)

-- such a byte ends no token and begins no quoted text
inner-more : (b : ℕ) (bytes : List ℕ) → is_inner b ≡ true → leads Inside (b ∷ bytes) ≡ leads Inside bytes
inner-more b bytes h =
    let bounds = inner-bounds b h in
    let space = ne_eqb b 32 (λ e. omega arith) in
    let tab = ne_eqb b 9 (λ e. omega arith) in
    let mark = ne_eqb b 34 (λ e. omega arith) in
    rw (space, tab, mark) refl

-- such bytes go on with a token, are no controls, and are ASCII
inner-leads : (bytes : List ℕ) → list_all is_inner bytes ≡ true → leads Inside bytes ≡ Some Inside
inner-leads [] h = refl
inner-leads (b ∷ bs) h = let parts = and_parts (is_inner b) (list_all is_inner bs) h in inner-more b bs parts.0 ∙ inner-leads bs parts.1

inner-plain : (bytes : List ℕ) → list_all is_inner bytes ≡ true → IsWithoutControls bytes
inner-plain [] h = refl
inner-plain (b ∷ bs) h =
    let parts = and_parts (is_inner b) (list_all is_inner bs) h in
    let bounds = inner-bounds b parts.0 in
    and_from (nat_le 32 b) (list_all (nat_le 32) bs) (le-leb 32 b (omega arith)) (inner-plain bs parts.1)

inner-ascii : (bytes : List ℕ) → list_all is_inner bytes ≡ true → IsAscii bytes
inner-ascii [] h i = omega arith
inner-ascii (b ∷ bs) h zero = (inner-bounds b (and_parts (is_inner b) (list_all is_inner bs) h).0).1
inner-ascii (b ∷ bs) h (suc i) = inner-ascii bs (and_parts (is_inner b) (list_all is_inner bs) h).1 i

-- so some of them are a good token
pub good-inner : (b : ℕ) (bytes : List ℕ) → list_all is_inner (b ∷ bytes) ≡ true → IsGood (b ∷ bytes)
good-inner b bytes h = record {
  whole = inner-leads (b ∷ bytes) h;
  plain = inner-plain (b ∷ bytes) h;
  utf8 = IsUtf8-from_ascii (b ∷ bytes) (inner-ascii (b ∷ bytes) h);
}

-- the same where a test says that there are some
pub good-text : (bytes : List ℕ) → nat_lt 0 (length bytes) ≡ true → list_all is_inner bytes ≡ true → IsGood bytes
good-text [] some h = absurd cc
good-text (b ∷ bs) some h = good-inner b bs h

-- good tokens with a space between two of them have no controls, and are UTF-8
pub plain-joined : (tokens : List (List ℕ)) → AllByRecursion IsGood tokens → IsWithoutControls (joined tokens)
plain-joined [] h = refl
plain-joined (t ∷ []) h = h.0.plain
plain-joined (t ∷ u ∷ us) h = list_all-append (nat_le 32) t (32 ∷ joined (u ∷ us)) ∙ and_from (list_all (nat_le 32) t) (list_all (nat_le 32) (joined (u ∷ us))) h.0.plain (plain-joined (u ∷ us) h.1)

utf8-joined : (tokens : List (List ℕ)) → AllByRecursion IsGood tokens → IsUtf8 (joined tokens)
unfolding encode
utf8-joined [] h = ([], (refl, refl))
utf8-joined (t ∷ []) h = h.0.utf8
utf8-joined (t ∷ u ∷ us) h = IsUtf8-append t (32 ∷ joined (u ∷ us)) h.0.utf8 (IsUtf8-append (32 ∷ []) (joined (u ∷ us)) (32 ∷ [], (refl, refl)) (utf8-joined (u ∷ us) h.1))

-- good tokens are whole
whole-tokens : (tokens : List (List ℕ)) → AllByRecursion IsGood tokens → AllByRecursion IsToken tokens
whole-tokens [] h = tt
whole-tokens (t ∷ ts) h = (h.0.whole, whole-tokens ts h.1)

-- a line of such tokens has the statement that they spell
pub line-joined : (c : Context) (tokens : List (List ℕ)) → AllByRecursion IsGood tokens → is_skipped (joined tokens) ≡ false → line_after c (joined tokens) ≡ statement_after c (statement_of tokens)
line-joined c tokens h kept =
    let utf8 = is_utf8-from_IsUtf8 (joined tokens) (utf8-joined tokens h) in
    let read = tokens_again tokens (whole-tokens tokens h) in
    rw (utf8, kept, read) refl
