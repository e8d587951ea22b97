use Rattle.std.proofs.Common.{◌≡◌, ◌<◌, ◌/◌, ◌%◌, ◌∙◌, ◌++◌, ◌∷◌, [], ap, ap₂, sym, map, ℕ, List, append_assoc, arith}
use Rattle.std.specs.Int.Digits.{digits_of}
use Rattle.std.proofs.lemmas.List.{map-append}
use Rattle.std.proofs.lemmas.Int.Digits.{digits_of_step}
use Rattle.sa_plain.specs.Written.{hex_digit}
use Rattle.sa_plain.proofs.hex.+push_digits.Goals as goal

pushed : (out front new : List ℕ) (n d : ℕ) → 0 < n → d ≡ hex_digit (n % 16) → front ≡ out ++ map hex_digit (digits_of 16 (n / 16)) → new ≡ front ++ d ∷ [] → new ≡ out ++ map hex_digit (digits_of 16 n)
pushed out front new n d some is front_is new_is =
    new_is ∙ ap₂ (λ xs x. xs ++ x ∷ []) front_is is
    ∙ append_assoc out (map hex_digit (digits_of 16 (n / 16))) (hex_digit (n % 16) ∷ [])
    ∙ ap (λ xs. out ++ xs) (sym (ap (map hex_digit) (digits_of_step 16 n (omega arith) some) ∙ map-append hex_digit (digits_of 16 (n / 16)) (n % 16 ∷ [])))

pub returns : goal.returns
returns t c = pushed c.args.out.now.items c.push_digits.new.out.items c.push.new.self.items c.args.number c.hex_digit.result (omega arith) c.hex_digit.ensures c.in_ok-push_digits.ensures c.in_ok-push.ensures.items
