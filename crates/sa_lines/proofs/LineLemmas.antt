-- Where the first line of a text ends.
use Rattle.std.proofs.Common.{◌≡◌, ℕ, ◌+◌, ◌<◌, ◌==◌, Bool, false, List, [], ◌∷◌, ◌++◌, length, get_or, take, drop, refl, sym, ap, ◌∙◌, arith, add-one, drop-cons, take-append-drop, length-take-le, get_or-take, ne_eqb}
use Rattle.std.specs.List.{All, slice_split}
use Rattle.std.specs.Str.Lines.{lines_of_parts, strip_carriage_return}
use Rattle.std.proofs.lemmas.List.Elements.{All-from_get_or}
use Rattle.std.proofs.lemmas.List.Splits.{slice_split_at, slice_split_none, length-slice_split}
use Rattle.sa_lines.specs.Lines.{lines_of}

-- no byte of the list is a line feed
abbrev pub NoFeed : List ℕ → Type 0
NoFeed bytes = (k : ℕ) → k < length bytes → get_or bytes k 0 ≡ 10 → ⊥

abbrev is_feed : ℕ → Bool
is_feed b = b == 10

none_is_feed : (bytes : List ℕ) → NoFeed bytes → All (λ b. is_feed b ≡ false) bytes
none_is_feed bytes h = All-from_get_or (λ b. is_feed b ≡ false) bytes 0 (λ k below. ne_eqb (get_or bytes k 0) 10 (h k below))

-- one part in front of others is a line that a line feed ended
parts_more : (part : List ℕ) (parts : List (List ℕ)) → 0 < length parts → lines_of_parts (part ∷ parts) ≡ strip_carriage_return part ∷ lines_of_parts parts
parts_more part [] some = absurd (omega arith)
parts_more part (p ∷ ps) some = refl

parts_one : (part : List ℕ) → 0 < length part → lines_of_parts (part ∷ []) ≡ part ∷ []
parts_one part some = let e = ne_eqb (length part) 0 (omega arith) in rw e refl

-- a line that a line feed ends
pub lines_of-feed : (front rest : List ℕ) → NoFeed front → lines_of (front ++ 10 ∷ rest) ≡ strip_carriage_return front ∷ lines_of rest
lines_of-feed front rest h =
    ap lines_of_parts (slice_split_at is_feed front 10 rest (none_is_feed front h) refl) ∙ parts_more front (slice_split is_feed rest) (omega (arith, length-slice_split is_feed rest))

-- a text cut at its first line feed
pub lines_of-cut : (bytes : List ℕ) (at : ℕ) → at < length bytes → get_or bytes at 0 ≡ 10 → ((k : ℕ) → k < at → get_or bytes k 0 ≡ 10 → ⊥) → lines_of bytes ≡ strip_carriage_return (take at bytes) ∷ lines_of (drop (at + 1) bytes)
lines_of-cut bytes at p e h =
    let cut : bytes ≡ take at bytes ++ 10 ∷ drop (at + 1) bytes = rw (add-one, ← e, ← drop-cons bytes at 0) (sym (take-append-drop at bytes)) in
    let front : NoFeed (take at bytes) = λ k q r. h k (omega (arith, length-take-le at bytes (omega arith))) (sym (get_or-take at bytes k 0 (omega (arith, length-take-le at bytes (omega arith)))) ∙ r) in
    ap lines_of cut ∙ lines_of-feed (take at bytes) (drop (at + 1) bytes) front

-- a text with bytes and no line feed is one line
pub lines_of-whole : (bytes : List ℕ) → 0 < length bytes → NoFeed bytes → lines_of bytes ≡ bytes ∷ []
lines_of-whole bytes some h = ap lines_of_parts (slice_split_none is_feed bytes (none_is_feed bytes h)) ∙ parts_one bytes some
