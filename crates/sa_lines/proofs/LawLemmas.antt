-- Lines and tokens that were written are read again as they were.
use Rattle.std.proofs.Common.{◌≡◌, ℕ, zero, suc, ◌-◌, ◌<◌, ◌≤◌, nat_le, List, [], ◌∷◌, length, get_or, slice_index, refl, sym, ap, ◌∙◌, arith, append_assoc, append-nil, leb-true, ne_eqb}
use Rattle.std.specs.List.{list_all, join_with_byte}
use Rattle.std.specs.Str.Lines.{strip_carriage_return}
use Rattle.std.proofs.lemmas.Bool.{and_parts}
use Rattle.sa_lines.specs.Laws.{IsWithoutControls, IsToken, LinesAgain, TokensAgain}
use Rattle.sa_lines.specs.Lines.{lines_of}
use Rattle.sa_lines.specs.Tokens.{Inside, tokens_of}
use Rattle.sa_lines.proofs.LineLemmas.{NoFeed, lines_of-feed}
use Rattle.sa_lines.proofs.TokenLemmas.{tokens_of-ended, tokens_of-last, tokens_of-blank}

-- a byte of bytes without controls
no_control : (bytes : List ℕ) (k : ℕ) → IsWithoutControls bytes → k < length bytes → 32 ≤ get_or bytes k 0
no_control [] k h below = absurd (omega arith)
no_control (b ∷ bs) zero h below = leb-true 32 b (and_parts (nat_le 32 b) (list_all (nat_le 32) bs) h).0
no_control (b ∷ bs) (suc k) h below = no_control bs k (and_parts (nat_le 32 b) (list_all (nat_le 32) bs) h).1 (omega arith)

NoFeed-no_control : (bytes : List ℕ) → IsWithoutControls bytes → NoFeed bytes
NoFeed-no_control bytes h k below feed = omega (arith, no_control bytes k h below)

-- the last byte is no carriage return
last_kept : (bytes : List ℕ) → IsWithoutControls bytes → slice_index bytes (length bytes - 1) ≡ 13 → ⊥
last_kept [] h e = omega arith
last_kept (b ∷ bs) h e = omega (arith, no_control (b ∷ bs) (length (b ∷ bs) - 1) h (omega arith))

strip-no_control : (bytes : List ℕ) → IsWithoutControls bytes → strip_carriage_return bytes ≡ bytes
strip-no_control bytes h = let kept = ne_eqb (slice_index bytes (length bytes - 1)) 13 (last_kept bytes h) in rw kept refl

pub lines_again : LinesAgain
lines_again bytes rest h =
    ap lines_of (append_assoc bytes (10 ∷ []) rest) ∙ (lines_of-feed bytes rest (NoFeed-no_control bytes h) ∙ ap (λ l. l ∷ lines_of rest) (strip-no_control bytes h))

-- a whole token has bytes
some_bytes : (t : List ℕ) → IsToken t → 0 < length t
some_bytes [] e = absurd cc
some_bytes (b ∷ bs) e = omega arith

pub tokens_again : TokensAgain
tokens_again [] h = refl
tokens_again (t ∷ []) h = ap tokens_of (sym (append-nil t)) ∙ tokens_of-last Inside t h.0 (some_bytes t h.0)
tokens_again (t ∷ u ∷ us) h =
    let behind : List ℕ = join_with_byte 32 (u ∷ us) in
    let later = tokens_of-blank 32 behind refl ∙ tokens_again (u ∷ us) h.1 in
    tokens_of-ended Inside t 32 behind h.0 (some_bytes t h.0) refl ∙ ap (λ ts. t ∷ ts) later
