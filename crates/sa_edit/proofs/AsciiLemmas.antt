-- An ASCII code point is among those of a text exactly where its byte is among the text's bytes.
use Rattle.std.proofs.Common.{◌≡◌, ◌<◌, ◌||◌, ℕ, suc, Bool, true, false, nat_eq, List, [], ◌∷◌, length, get_or, refl, sym, ap, ap₂, ◌∙◌, inl, inr, arith, append-nil}
use Rattle.std.specs.List.{list_any}
use Rattle.std.proofs.Math.Utf8.{encode, encodes}
use Rattle.std.proofs.lemmas.Bool.{cases_lt, ne_eqb, or_from}
use Rattle.std.proofs.lemmas.List.Folds.{list_any-append}
use Rattle.std.proofs.lemmas.Str.{encode_ascii, inside_one}

or-false : (x : Bool) → (x || false) ≡ x
or-false true = refl
or-false false = refl

none-any : (p : ℕ) (bs : List ℕ) → ((k : ℕ) → k < length bs → nat_eq p (get_or bs k 0) ≡ false) → list_any (nat_eq p) bs ≡ false
none-any p [] h = refl
none-any p (b ∷ bs) h = or_from (nat_eq p b) (list_any (nat_eq p) bs) (h 0 (omega arith)) (none-any p bs (λ k l. h (suc k) (omega arith)))

one-any : (p c : ℕ) → p < 128 → list_any (nat_eq p) (encode c) ≡ nat_eq p c
one-any p c h = elim (cases_lt c 128) [
  | inl low ↦ ap (list_any (nat_eq p)) (encode_ascii c low) ∙ or-false (nat_eq p c)
  | inr high ↦
      none-any p (encode c) (λ k l. ne_eqb p (get_or (encode c) k 0) (λ e. let same = inside_one c [] (encode c) k (sym (append-nil (encode c))) l (omega arith) in absurd (omega arith)))
      ∙ sym (ne_eqb p c (λ e. absurd (omega arith)))
]

pub ascii-any : (p : ℕ) (cs : List ℕ) → p < 128 → list_any (nat_eq p) (encodes cs) ≡ list_any (nat_eq p) cs
ascii-any p [] h = refl
ascii-any p (c ∷ cs) h = list_any-append (nat_eq p) (encode c) (encodes cs) ∙ ap₂ ◌||◌ (one-any p c h) (ascii-any p cs h)
