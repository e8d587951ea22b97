-- One item of a list after another.
use Rattle.std.proofs.Common.{◌≡◌, ℕ, zero, suc, ◌-◌, ◌<◌, false, eqb, List, Option, Some, None, refl, ap, ◌∙◌, arith, eq-eqb, sub-one}
use Rattle.sa_script.specs.Items.{items_at, further_at}

pub items_at_none : {A : Type 0} (item : List ℕ → Option (Option A × List ℕ)) (left : ℕ) (so_far : Option (List A)) (bs : List ℕ) → 0 < left → further_at item so_far bs ≡ None → items_at item left so_far bs ≡ None
items_at_none item zero so_far bs some e = absurd (omega arith)
items_at_none item (suc n) so_far bs some e = rw e refl

pub items_at_comma : {A : Type 0} (item : List ℕ → Option (Option A × List ℕ)) (left : ℕ) (so_far : Option (List A)) (bs : List ℕ) (items : Option (List A)) (byte : ℕ) (rest : List ℕ)
    → 0 < left → further_at item so_far bs ≡ Some (items, byte, rest) → byte ≡ 44 → items_at item left so_far bs ≡ items_at item (left - 1) items rest
items_at_comma item zero so_far bs items byte rest some e comma = absurd (omega arith)
items_at_comma item (suc n) so_far bs items byte rest some e comma = let f = eq-eqb byte 44 comma in rw (e, f, sub-one) refl

pub items_at_closed : {A : Type 0} (item : List ℕ → Option (Option A × List ℕ)) (left : ℕ) (so_far : Option (List A)) (bs : List ℕ) (items : Option (List A)) (byte : ℕ) (rest : List ℕ)
    → 0 < left → further_at item so_far bs ≡ Some (items, byte, rest) → byte ≡ 41 → items_at item left so_far bs ≡ Some (items, rest)
items_at_closed item zero so_far bs items byte rest some e closed = absurd (omega arith)
items_at_closed item (suc n) so_far bs items byte rest some e closed = let f : further_at item so_far bs ≡ Some (items, 41, rest) = e ∙ ap (λ b. Some (items, b, rest)) closed in rw f refl

pub items_at_other : {A : Type 0} (item : List ℕ → Option (Option A × List ℕ)) (left : ℕ) (so_far : Option (List A)) (bs : List ℕ) (items : Option (List A)) (byte : ℕ) (rest : List ℕ)
    → 0 < left → further_at item so_far bs ≡ Some (items, byte, rest) → eqb byte 44 ≡ false → eqb byte 41 ≡ false → items_at item left so_far bs ≡ None
items_at_other item zero so_far bs items byte rest some e f g = absurd (omega arith)
items_at_other item (suc n) so_far bs items byte rest some e f g = rw (e, f, g) refl
