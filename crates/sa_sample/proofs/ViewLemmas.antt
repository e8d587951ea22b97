-- Views of a sample are read as they were written.
use Rattle.std.proofs.Common.{◌≡◌, ℕ, ◌<◌, ◌==◌, Bool, true, false, ◌&&◌, not, List, [], ◌∷◌, ◌++◌, Option, Some, ℤ, pos, refl, sym, ap, ◌∙◌, arith, codes, decimal, append_assoc}
use Rattle.std.specs.Fmt.{digits}
use Rattle.std.specs.List.{list_all}
use Rattle.std.proofs.lemmas.Bool.{and_from}
use Rattle.sa_lines.specs.Numbers.{number_of}
use Rattle.sa_script.specs.Names.{name_of, is_name, is_reserved}
use Rattle.sa_script.specs.Views.{cut_at, inside_of, span_of, strided_of, view_of}
use Rattle.sa_script.specs.declared.statement.Span.{Span}
use Rattle.sa_script.specs.declared.statement.Span.TheVariants.{Strided}
use Rattle.sa_script.specs.declared.statement.ViewTerm.{ViewTerm}
use Rattle.sa_sample.specs.declared.drawing.DrawnView.{DrawnView}
use Rattle.sa_sample.specs.Samples.{view, view_behind}
use Rattle.sa_sample.proofs.CutLemmas.{passes, lacks, cut_at-mark, inside_of-bracket, inner-append, lacks-append, none-lacks, lacks-comma, lacks-colon, lacks-bracket, inner-digits, small-number}
use Rattle.sa_sample.proofs.TokenLemmas.{is_inner, IsGood, good-inner}

-- a view by its parts
view_of-parts : (token name rest inner : List ℕ) (span : Span) → cut_at 91 token ≡ (name, Some rest) → name_of name ≡ Some name → inside_of rest ≡ Some inner → span_of inner ≡ Some span
    → view_of token ≡ Some (record { name = name; span = span })
view_of-parts token name rest inner span cut named bracket spanned = rw (cut, named, bracket, spanned) refl

-- a span by its parts
strided_of-parts : (bytes a b last rest : List ℕ) (start count step : Option ℤ) → cut_at 44 bytes ≡ (a, Some rest) → cut_at 44 rest ≡ (b, Some last)
    → number_of a ≡ Some start → number_of b ≡ Some count → number_of last ≡ Some step → strided_of bytes ≡ Some (Strided start count step)
strided_of-parts bytes a b last rest start count step cut again first second third = rw (cut, again, first, second, third) refl

-- start, count and the step 1
abbrev pub strided : ℕ → ℕ → Span
strided start count = Strided (Some (pos start)) (Some (pos count)) (Some (pos 1))

-- what stands between the brackets of a view
span-read : (start count : ℕ) → start < 33 → count < 33 → span_of (decimal start ++ 44 ∷ (decimal count ++ codes ",1")) ≡ Some (strided start count)
span-read start count first second =
    let rest : List ℕ = decimal count ++ codes ",1" in
    let bytes : List ℕ = decimal start ++ 44 ∷ rest in
    let colon = none-lacks 58 bytes (lacks-append 58 (decimal start) (44 ∷ rest) (lacks-colon start first) (lacks-append 58 (decimal count) (codes ",1") (lacks-colon count second) refl)) in
    let cut = cut_at-mark 44 (decimal start) rest (lacks-comma start first) in
    let again = cut_at-mark 44 (decimal count) (49 ∷ []) (lacks-comma count second) in
    rw colon (strided_of-parts bytes (decimal start) (decimal count) (49 ∷ []) rest (Some (pos start)) (Some (pos count)) (Some (pos 1)) cut again (small-number start first) (small-number count second) refl)

-- a letter that an array's name begins with
pub record IsLetter (letter : ℕ) : Type 0 where
  pub inner : is_inner letter ≡ true
  pub other : (letter == 91) ≡ false
  pub named : (k : ℕ) → k < 4 → name_of (letter ∷ decimal k) ≡ Some (letter ∷ decimal k)

-- a name that is no reserved word
abbrev is_free : List ℕ → Bool
is_free token = is_name token && not (is_reserved token)

name_of-free : (token : List ℕ) → is_free token ≡ true → name_of token ≡ Some token
name_of-free token h = rw h refl

-- the letters of arrays of strings and of numbers
pub letter-a : IsLetter 97
unfolding digits
letter-a = record {
  inner = refl;
  other = refl;
  named = λ k below. name_of-free (97 ∷ decimal k) (passes (λ n. is_free (97 ∷ decimal n)) 4 k refl below);
}

pub letter-n : IsLetter 110
unfolding digits
letter-n = record {
  inner = refl;
  other = refl;
  named = λ k below. name_of-free (110 ∷ decimal k) (passes (λ n. is_free (110 ∷ decimal n)) 4 k refl below);
}

-- a view that is drawn: an array's number, where it begins, and how many entries it has
pub record IsDrawnView (v : DrawnView) (count : ℕ) : Type 0 where
  pub array : v.array < 4
  pub start : v.start < 32
  pub some : 0 < count
  pub few : count < 33

-- as a term of a line, where the array's name begins with this letter
abbrev pub view_term : ℕ → DrawnView → ℕ → ViewTerm
view_term letter v count = record { name = letter ∷ decimal v.array; span = strided v.start count }

-- the view is read as that term
pub view-reads : (letter : ℕ) → IsLetter letter → (v : DrawnView) (count : ℕ) → IsDrawnView v count → view_of (view letter v count) ≡ Some (view_term letter v count)
view-reads letter l v count d =
    let inner : List ℕ = decimal v.start ++ 44 ∷ (decimal count ++ codes ",1") in
    let rest : List ℕ = decimal v.start ++ 44 ∷ (decimal count ++ codes ",1]") in
    let name : List ℕ = letter ∷ decimal v.array in
    let closed : inner ++ 93 ∷ [] ≡ rest = bracket-last (decimal v.start) (decimal count) in
    let other = l.other in
    let free : lacks 91 name ≡ true = rw other (lacks-bracket v.array (omega (arith, d.array))) in
    view_of-parts (view letter v count) name rest inner (strided v.start count) (cut_at-mark 91 name rest free) (l.named v.array d.array)
    (ap inside_of (sym closed) ∙ inside_of-bracket inner) (span-read v.start count (omega (arith, d.start)) d.few)
  where
    bracket-last : (a b : List ℕ) → (a ++ 44 ∷ (b ++ codes ",1")) ++ 93 ∷ [] ≡ a ++ 44 ∷ (b ++ codes ",1]")
    bracket-last a b = simp append_assoc

-- and is a token of plain bytes
pub view-good : (letter : ℕ) → IsLetter letter → (v : DrawnView) (count : ℕ) → IsDrawnView v count → IsGood (view letter v count)
view-good letter l v count d =
    let rest : List ℕ = decimal count ++ codes ",1]" in
    let last = inner-append (decimal count) (codes ",1]") (inner-digits count d.few) refl in
    let later = inner-append (decimal v.start) (44 ∷ rest) (inner-digits v.start (omega (arith, d.start))) last in
    good-inner letter (view_behind v count) (and_from (is_inner letter) (list_all is_inner (view_behind v count)) l.inner (inner-append (decimal v.array) (91 ∷ (decimal v.start ++ 44 ∷ rest)) (inner-digits v.array (omega (arith, d.array))) later))
