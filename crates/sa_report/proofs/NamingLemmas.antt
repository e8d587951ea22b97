-- The pairs of a report's lines are read back as they were.
use Rattle.std.proofs.Common.{◌≡◌, ℕ, ◌^◌, ◌<◌, ◌≤◌, List, [], ◌∷◌, ◌++◌, drop, map, Some, slice_index_or, codes, decimal, refl, ap, ◌∙◌, arith, append-nil, le-leb, ne_eqb, nat_le}
use Rattle.std.specs.List.{flat_map, AllByRecursion, list_all}
use Rattle.std.specs.Str.Parse.{AllDigits}
use Rattle.std.proofs.lemmas.Bool.{and_from}
use Rattle.std.proofs.lemmas.Fmt.{decimal_is_IsNumeral}
use Rattle.std.proofs.lemmas.Str.Parse.{digit_from_value}
use Rattle.sa_lines.specs.Laws.{IsWithoutControls, IsToken, LinesAgain, TokensAgain, StrictIsDecimal, DecimalInFront}
use Rattle.sa_lines.specs.Lines.{lines_of, line}
use Rattle.sa_lines.specs.Numbers.{strict_number_of, strict_number_at}
use Rattle.sa_lines.specs.Tokens.{Inside, joined, leads}
use Rattle.sa_report.specs.Naming.{pair_of, pairs_of, IsShort, NamesItsHistory}
use Rattle.sa_report.specs.Reports.{pair, spaced_pair, report_rest, marks_in}

-- a byte that stands in a word
abbrev IsWordByte : ℕ → Type 0
IsWordByte b = 35 ≤ b

-- a pair, and pairs, are read as they were
pair_of-reads : (bytes rest : List ℕ) (m n : ℕ) → strict_number_at bytes ≡ Some (m, 58 ∷ rest) → strict_number_of rest ≡ Some n → pair_of bytes ≡ Some (m, n)
pair_of-reads bytes rest m n e f = rw (e, f) refl

pair_again : StrictIsDecimal → DecimalInFront → (p : ℕ × ℕ) → IsShort p → pair_of (pair p) ≡ Some p
pair_again strict in_front p h =
    pair_of-reads (pair p) (decimal p.1) p.0 p.1 (in_front p.0 (58 ∷ decimal p.1) h.0 refl) ((strict p.1 (decimal p.1) h.1).1 refl)

pairs_again : StrictIsDecimal → DecimalInFront → (ps : List (ℕ × ℕ)) → AllByRecursion IsShort ps → map pair_of (map pair ps) ≡ map Some ps
pairs_again strict in_front [] h = refl
pairs_again strict in_front (p ∷ ps) h = λ i. pair_again strict in_front p h.0 i ∷ pairs_again strict in_front ps h.1 i

-- digits, a colon and digits are the bytes of a word
word-digits : (bs : List ℕ) → AllDigits 10 bs → AllByRecursion IsWordByte bs
word-digits [] h = tt
word-digits (b ∷ bs) h = let low = (digit_from_value b h.0).0 in (omega arith, word-digits bs h.1)

word-decimal : (number : ℕ) → number < 2 ^ 64 → AllByRecursion IsWordByte (decimal number)
word-decimal number small = word-digits (decimal number) (decimal_is_IsNumeral number small).0.1

word-append : (bs cs : List ℕ) → AllByRecursion IsWordByte bs → AllByRecursion IsWordByte cs → AllByRecursion IsWordByte (bs ++ cs)
word-append [] cs h k = k
word-append (b ∷ bs) cs h k = (h.0, word-append bs cs h.1 k)

word-pair : (p : ℕ × ℕ) → IsShort p → AllByRecursion IsWordByte (pair p)
word-pair p h =
    word-append (decimal p.0) (58 ∷ decimal p.1) (word-decimal p.0 h.0) (omega arith, word-decimal p.1 h.1)

-- a word leads on inside a token, and a word with a byte is a token
leads-word : (bs : List ℕ) → AllByRecursion IsWordByte bs → leads Inside bs ≡ Some Inside
leads-word [] h = refl
leads-word (b ∷ bs) h =
    let low = h.0 in
    let space = ne_eqb b 32 (omega arith) in
    let tab = ne_eqb b 9 (omega arith) in
    let mark = ne_eqb b 34 (omega arith) in
    rw (space, tab, mark) (leads-word bs h.1)

IsToken-word : (bs : List ℕ) (c : ℕ) (cs : List ℕ) → AllByRecursion IsWordByte (bs ++ c ∷ cs) → IsToken (bs ++ c ∷ cs)
IsToken-word [] c cs h = leads-word (c ∷ cs) h
IsToken-word (b ∷ bs) c cs h = leads-word (b ∷ (bs ++ c ∷ cs)) h

-- each pair is a token
tokens-pairs : (ps : List (ℕ × ℕ)) → AllByRecursion IsShort ps → AllByRecursion IsToken (map pair ps)
tokens-pairs [] h = tt
tokens-pairs (p ∷ ps) h = (IsToken-word (decimal p.0) 58 (decimal p.1) (word-pair p h.0), tokens-pairs ps h.1)

-- a word has no controls, and neither have pairs behind spaces
no_controls-append : (bs cs : List ℕ) → AllByRecursion IsWordByte bs → IsWithoutControls cs → IsWithoutControls (bs ++ cs)
no_controls-append [] cs h k = k
no_controls-append (b ∷ bs) cs h k =
    let low = h.0 in
    and_from (nat_le 32 b) (list_all (nat_le 32) (bs ++ cs)) (le-leb 32 b (omega arith)) (no_controls-append bs cs h.1 k)

no_controls-pairs : (ps : List (ℕ × ℕ)) → AllByRecursion IsShort ps → IsWithoutControls (flat_map spaced_pair ps)
no_controls-pairs [] h = refl
no_controls-pairs (p ∷ ps) h = no_controls-append (pair p) (flat_map spaced_pair ps) (word-pair p h.0) (no_controls-pairs ps h.1)

-- a word and pairs behind spaces are joined tokens
joined-pairs : (word : List ℕ) (ps : List (ℕ × ℕ)) → word ++ flat_map spaced_pair ps ≡ joined (word ∷ map pair ps)
joined-pairs word [] = append-nil word
joined-pairs word (p ∷ ps) = ap (λ bs. word ++ 32 ∷ bs) (joined-pairs (pair p) ps)

-- a line's pairs are read as they were
pairs_of-line : (word : List ℕ) (ps : List (ℕ × ℕ)) → TokensAgain → StrictIsDecimal → DecimalInFront → IsToken word → AllByRecursion IsShort ps → pairs_of (word ++ flat_map spaced_pair ps) ≡ map Some ps
pairs_of-line word ps tokens_again strict in_front h k =
    ap pairs_of (joined-pairs word ps) ∙ (ap (λ ts. map pair_of (drop 1 ts)) (tokens_again (word ∷ map pair ps) (h, tokens-pairs ps k)) ∙ pairs_again strict in_front ps k)

-- three lines without controls are read first
lines_of-three : (a b c rest : List ℕ) → LinesAgain → IsWithoutControls a → IsWithoutControls b → IsWithoutControls c → lines_of (line a ++ (line b ++ (line c ++ rest))) ≡ a ∷ b ∷ c ∷ lines_of rest
lines_of-three a b c rest lines_again h k l =
    lines_again a (line b ++ (line c ++ rest)) h ∙ (ap (λ ls. a ∷ ls) (lines_again b (line c ++ rest) k) ∙ ap (λ ls. a ∷ b ∷ ls) (lines_again c rest l))

-- a report's second and third line hold its history and its marks
pub names_again : LinesAgain → TokensAgain → StrictIsDecimal → DecimalInFront → NamesItsHistory
names_again lines_again tokens_again strict in_front script history marks replies contents stats h k =
    let first : List ℕ = codes "history" ++ flat_map spaced_pair history in
    let second : List ℕ = codes "marked" ++ flat_map spaced_pair (marks_in script marks) in
    let lines = lines_of-three (codes "report 1") first second (report_rest script history marks replies contents stats) lines_again refl (no_controls-pairs history h) (no_controls-pairs (marks_in script marks) k) in (
      ap (λ ls. pairs_of (slice_index_or ls 1 [])) lines ∙ pairs_of-line (codes "history") history tokens_again strict in_front refl h,
      ap (λ ls. pairs_of (slice_index_or ls 2 [])) lines ∙ pairs_of-line (codes "marked") (marks_in script marks) tokens_again strict in_front refl k,
    )
