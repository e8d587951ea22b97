-- Numbers that were written in decimal are read again as they were.
use Rattle.std.proofs.Common.{◌≡◌, ℕ, suc, ◌-◌, ◌^◌, ◌<◌, ◌==◌, nat_lt, true, false, ◌&&◌, List, [], ◌∷◌, ◌++◌, length, get_or, Some, None, option_map, pos, negsuc, decimal, refl, sym, ap, ap₂, ◌∙◌, inl, inr, arith, ne_eqb, le-leb, lt-ltb, ltb-true, eqb-true, eq-eqb, rules}
use Rattle.std.specs.Char.{is_ascii_digit}
use Rattle.std.specs.Str.{all_ascii_digits}
use Rattle.std.specs.Str.Parse.{digits_value}
use Rattle.std.proofs.lemmas.Bool.{cases_Bool, and_parts, and_from, eqb-false, false≢true}
use Rattle.std.proofs.lemmas.Fmt.{decimal_digit, decimal_nonempty, first_decimal, digits_decimal, digits_value-decimal, decimal-digits_value}
use Rattle.std.proofs.lemmas.List.{take_at, drop_at}
use Rattle.std.proofs.lemmas.Option.{none-some, same_Some}
use Rattle.std.proofs.lemmas.Str.Parse.{IsNumeralModel, numerals_by_value}
use Rattle.sa_lines.specs.Laws.{DecimalAgain, StrictIsDecimal, DecimalInFront}
use Rattle.sa_lines.specs.Numbers.{digits_of, fitted, fitted_negative, number_of, strict_number_of, digit_count}

-- std's digits and their value are a model of numerals
numerals : IsNumeralModel (λ ds. all_ascii_digits ds ≡ true) (digits_value 10)
numerals = numerals_by_value (λ ds. all_ascii_digits ds ≡ true) (search rules)

-- digits are read as their value
digits_of-digits : (ds : List ℕ) → 0 < length ds → all_ascii_digits ds ≡ true → digits_of ds ≡ Some (digits_value 10 ds)
digits_of-digits [] some all = absurd (omega arith)
digits_of-digits (d ∷ ds) some all = rw all refl

digits_of-decimal : (n : ℕ) → n < 2 ^ 64 → digits_of (decimal n) ≡ Some n
digits_of-decimal n small = digits_of-digits (decimal n) (decimal_nonempty n small) (digits_decimal numerals n small) ∙ ap Some (digits_value-decimal numerals n small)

-- what begins with a digit has no sign
number_of-digits : (ds : List ℕ) → 0 < length ds → all_ascii_digits ds ≡ true → number_of ds ≡ option_map fitted (digits_of ds)
number_of-digits [] some all = absurd (omega arith)
number_of-digits (d ∷ ds) some all =
    let sign = ne_eqb d 45 (λ e. false≢true (sym (ap (λ x. all_ascii_digits (x ∷ ds)) e) ∙ all)) in
    rw sign refl

fitted-within : (n : ℕ) → n < 2 ^ 63 → fitted n ≡ Some (pos n)
fitted-within n small = let within = le-leb n (2 ^ 63 - 1) (omega arith) in rw within refl

fitted_negative-within : (n : ℕ) → n < 2 ^ 63 → fitted_negative (suc n) ≡ Some (negsuc n)
fitted_negative-within n small =
    let some = ne_eqb (suc n) 0 (omega arith) in
    let within = le-leb (suc n) (2 ^ 63) (omega arith) in
    rw (some, within) (ap (λ k. Some (negsuc k)) (omega arith))

pub decimal_again : DecimalAgain
decimal_again (pos n) small =
    number_of-digits (decimal n) (decimal_nonempty n (omega arith)) (digits_decimal numerals n (omega arith))
    ∙ (ap (option_map fitted) (digits_of-decimal n (omega arith)) ∙ ap Some (fitted-within n small))
decimal_again (negsuc n) small = ap (option_map fitted_negative) (digits_of-decimal (suc n) (omega arith)) ∙ ap Some (fitted_negative-within n small)

-- a leading zero
strict-zero : (b : ℕ) (bs : List ℕ) → ((b == 48) && nat_lt 0 (length bs)) ≡ true → strict_number_of (b ∷ bs) ≡ None
strict-zero b bs t = rw t refl

strict-digits : (b : ℕ) (bs : List ℕ) → ((b == 48) && nat_lt 0 (length bs)) ≡ false → strict_number_of (b ∷ bs) ≡ digits_of (b ∷ bs)
strict-digits b bs f = rw f refl

-- digits of which the first is 0 only where it stands alone
strict_number_of-digits : (ds : List ℕ) → 0 < length ds → all_ascii_digits ds ≡ true → (get_or ds 0 0 ≡ 48 → length ds ≡ 1) → strict_number_of ds ≡ Some (digits_value 10 ds)
strict_number_of-digits [] some all lead = absurd (omega arith)
strict_number_of-digits (d ∷ ds) some all lead = elim (cases_Bool ((d == 48) && nat_lt 0 (length ds))) [
  | inl t ↦
      let parts = and_parts (d == 48) (nat_lt 0 (length ds)) t in
      let alone = lead (eqb-true d 48 parts.0) in
      let more = ltb-true 0 (length ds) parts.1 in
      absurd (omega arith)
  | inr f ↦ strict-digits d ds f ∙ digits_of-digits (d ∷ ds) some all
]

decimal_lead : (n : ℕ) → n < 2 ^ 64 → get_or (decimal n) 0 0 ≡ 48 → length (decimal n) ≡ 1
decimal_lead n small e = elim (cases_Bool (n == 0)) [
  | inl t ↦ let zero_alone = ap decimal (eqb-true n 0 t) ∙ decimal_digit 0 (omega arith) in ap length zero_alone
  | inr f ↦ absurd (omega (arith, first_decimal n (omega (arith, eqb-false n 0 f)) small))
]

strict_number_of-decimal : (n : ℕ) → n < 2 ^ 64 → strict_number_of (decimal n) ≡ Some n
strict_number_of-decimal n small =
    strict_number_of-digits (decimal n) (decimal_nonempty n small) (digits_decimal numerals n small) (decimal_lead n small) ∙ ap Some (digits_value-decimal numerals n small)

-- what digits were read, and with which value
digits_of-none : (b : ℕ) (bs : List ℕ) → all_ascii_digits (b ∷ bs) ≡ false → digits_of (b ∷ bs) ≡ None
digits_of-none b bs f = rw f refl

lone_zero : (b : ℕ) (bs : List ℕ) → ((b == 48) && nat_lt 0 (length bs)) ≡ false → b ≡ 48 → length (b ∷ bs) ≡ 1
lone_zero b [] f e = omega arith
lone_zero b (c ∷ cs) f e =
    let both = and_from (b == 48) (nat_lt 0 (length (c ∷ cs))) (eq-eqb b 48 e) (lt-ltb 0 (length (c ∷ cs)) (omega arith)) in
    absurd (false≢true (sym f ∙ both))

strict_only : (n : ℕ) (bytes : List ℕ) → n < 2 ^ 64 → strict_number_of bytes ≡ Some n → bytes ≡ decimal n
strict_only n [] small read = absurd (none-some n read)
strict_only n (b ∷ bs) small read = elim (cases_Bool ((b == 48) && nat_lt 0 (length bs))) [
  | inl t ↦ absurd (none-some n (sym (strict-zero b bs t) ∙ read))
  | inr f ↦ elim (cases_Bool (all_ascii_digits (b ∷ bs))) [
    | inl all ↦
        let value = same_Some (digits_value 10 (b ∷ bs)) n (sym (digits_of-digits (b ∷ bs) (omega arith) all) ∙ (sym (strict-digits b bs f) ∙ read)) in
        let lead : b ≡ 48 → length (b ∷ bs) ≡ 1 = lone_zero b bs f in
        sym (decimal-digits_value numerals (b ∷ bs) all (omega arith) lead (omega (arith, value))) ∙ ap decimal value
    | inr other ↦ absurd (none-some n (sym (digits_of-none b bs other) ∙ (sym (strict-digits b bs f) ∙ read)))
  ]
]

pub strict_is_decimal : StrictIsDecimal
strict_is_decimal n bytes small = (strict_only n bytes small, λ e. ap strict_number_of e ∙ strict_number_of-decimal n small)

-- digits in front of bytes that begin with none are all that stand at the front
digit_count-front : (ds rest : List ℕ) → all_ascii_digits ds ≡ true → digit_count rest ≡ 0 → digit_count (ds ++ rest) ≡ length ds
digit_count-front [] rest all none = none
digit_count-front (d ∷ ds) rest all none =
    let parts = and_parts (is_ascii_digit d) (all_ascii_digits ds) all in
    let digit = parts.0 in
    rw digit (omega (arith, digit_count-front ds rest parts.1 none))

pub decimal_in_front : DecimalInFront
decimal_in_front n rest small none =
    let count = digit_count-front (decimal n) rest (digits_decimal numerals n small) none in
    let front = take_at (decimal n) rest (digit_count (decimal n ++ rest)) (sym count) in
    let behind = drop_at (decimal n) rest (digit_count (decimal n ++ rest)) (sym count) in
    ap₂ (λ (ds bs : List ℕ). option_map (λ k. (k, bs)) (strict_number_of ds)) front behind ∙ ap (option_map (λ k. (k, rest))) (strict_number_of-decimal n small)
