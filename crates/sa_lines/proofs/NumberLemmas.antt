-- Digits of a number that is brought down to a greatest one.
use Rattle.std.proofs.Common.{◌≡◌, ℕ, ◌+◌, ◌-◌, ◌*◌, ◌<◌, ◌≤◌, true, false, ◌&&◌, nat_le, List, [], ◌∷◌, Option, Some, None, option_map, min, refl, sym, ap, ◌∙◌, inl, inr, arith, le-leb, leb-true, if◌then◌else◌, length}
use Rattle.std.proofs.lemmas.Bool.{cases_Bool, and_from, and_parts}
use Rattle.std.proofs.lemmas.Option.{none-some}
use Rattle.std.specs.Char.{digit_value}
use Rattle.std.specs.Str.{all_ascii_digits}
use Rattle.std.specs.Str.Parse.{digits_value_after}
use Rattle.std.proofs.lemmas.Str.{digit_value_digit}
use Rattle.sa_lines.specs.Numbers.{digits_of}

-- the number that further decimal digits make of one, or none where one of them is no digit
abbrev pub digits_after : ℕ → List ℕ → Option ℕ
digits_after n [] = Some n
digits_after n (b ∷ bs) = if nat_le 48 b && nat_le b 57 then digits_after (n * 10 + (b - 48)) bs else None

-- a byte that is a digit, and one that is none
pub digits_after-digit : (n b : ℕ) (bs : List ℕ) → (nat_le 48 b && nat_le b 57) ≡ true → digits_after n (b ∷ bs) ≡ digits_after (n * 10 + (b - 48)) bs
digits_after-digit n b bs t = rw t refl

digits_after-other : (n b : ℕ) (bs : List ℕ) → (nat_le 48 b && nat_le b 57) ≡ false → digits_after n (b ∷ bs) ≡ None
digits_after-other n b bs f = rw f refl

-- the first of digits that make a number is a digit
pub digits_after-first : (n m b : ℕ) (bs : List ℕ) → digits_after n (b ∷ bs) ≡ Some m → (nat_le 48 b && nat_le b 57) ≡ true
digits_after-first n m b bs e = elim (cases_Bool (nat_le 48 b && nat_le b 57)) [ inl t ↦ t | inr f ↦ absurd (none-some m (sym (digits_after-other n b bs f) ∙ e)) ]

-- the number that digits make, brought down, does not see whether it was brought down before
pub digits_after-min : (top n : ℕ) (bs : List ℕ) → option_map (min top) (digits_after (min top n) bs) ≡ option_map (min top) (digits_after n bs)
digits_after-min top n [] = ap Some (omega arith)
digits_after-min top n (b ∷ bs) =
    let x : ℕ = min top n * 10 + (b - 48) in
    let y : ℕ = n * 10 + (b - 48) in
    let brought : min top x ≡ min top y = omega arith in
    let read : ℕ → Option ℕ = λ m. option_map (min top) (digits_after m bs) in
    let later = sym (digits_after-min top x bs) ∙ (ap read brought ∙ digits_after-min top y bs) in
    elim (cases_Bool (nat_le 48 b && nat_le b 57)) [
      | inl t ↦ ap (option_map (min top)) (digits_after-digit (min top n) b bs t) ∙ (later ∙ sym (ap (option_map (min top)) (digits_after-digit n b bs t)))
      | inr f ↦ ap (option_map (min top)) (digits_after-other (min top n) b bs f ∙ sym (digits_after-other n b bs f))
    ]

-- a digit behind a number that it brings above the greatest one
pub digits_after-capped : (top n b : ℕ) (bs : List ℕ) → 48 ≤ b → b ≤ 57 → top ≤ n * 10 → option_map (min top) (digits_after n (b ∷ bs)) ≡ option_map (min top) (digits_after top bs)
digits_after-capped top n b bs low high above =
    let t = and_from (nat_le 48 b) (nat_le b 57) (le-leb 48 b low) (le-leb b 57 high) in
    let m : ℕ = n * 10 + (b - 48) in
    let is_top : min top m ≡ top = omega arith in
    ap (option_map (min top)) (digits_after-digit n b bs t) ∙ (sym (digits_after-min top m bs) ∙ ap (λ k. option_map (min top) (digits_after k bs)) is_top)

-- the same by std's words
value-digit : (b : ℕ) → (nat_le 48 b && nat_le b 57) ≡ true → digit_value b ≡ b - 48
value-digit b t =
    let parts = and_parts (nat_le 48 b) (nat_le b 57) t in
    let low = leb-true 48 b parts.0 in
    omega (arith, digit_value_digit b (low, leb-true b 57 parts.1))

digits_after-value : (n : ℕ) (bs : List ℕ) → digits_after n bs ≡ (if all_ascii_digits bs then Some (digits_value_after 10 n bs) else None)
digits_after-value n [] = refl
digits_after-value n (b ∷ bs) = elim (cases_Bool (nat_le 48 b && nat_le b 57)) [
  | inl t ↦ digits_after-digit n b bs t ∙ rw (t, value-digit b t) (digits_after-value (n * 10 + (b - 48)) bs)
  | inr f ↦ rw f refl
]

pub digits_of-after : (bs : List ℕ) → 0 < length bs → digits_of bs ≡ digits_after 0 bs
digits_of-after [] some = absurd (omega arith)
digits_of-after (b ∷ bs) some = sym (digits_after-value 0 (b ∷ bs))
