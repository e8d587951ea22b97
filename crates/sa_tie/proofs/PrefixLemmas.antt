-- Lists that begin other lists.
use Rattle.std.proofs.Common.{◌≡◌, ◌≤◌, ℕ, List, [], ◌∷◌, ◌++◌, length, refl, sym, ap, ◌∙◌, arith, append_assoc, length-append}
use Rattle.std.proofs.lemmas.List.{append-nil}
use mathlib.Core.List.{IsPrefix}

-- a list of length 0 is the empty list
no_member : (xs : List ℕ) → length xs ≡ 0 → xs ≡ []
no_member [] e = refl
no_member (x ∷ xs) e = absurd (omega arith)

-- what begins a list that is no longer is the whole list
pub prefix_whole : (xs ys : List ℕ) → IsPrefix xs ys → length ys ≤ length xs → xs ≡ ys
prefix_whole xs ys p short =
    let none : length p.0 ≡ 0 = omega (arith, length-append xs p.0, ap length p.1) in
    sym (append-nil xs) ∙ ap (λ rest. xs ++ rest) (sym (no_member p.0 none)) ∙ p.1

-- two lists that begin each other are equal
pub both_ways : (xs ys : List ℕ) → IsPrefix xs ys → IsPrefix ys xs → xs ≡ ys
both_ways xs ys p q = prefix_whole xs ys p (omega (arith, length-append ys q.0, ap length q.1))

-- what begins a list begins the list with one more member
pub prefix_longer : (xs ys : List ℕ) (y : ℕ) → IsPrefix xs ys → IsPrefix xs (ys ++ y ∷ [])
prefix_longer xs ys y p = (p.0 ++ y ∷ [], sym (append_assoc xs p.0 (y ∷ [])) ∙ ap (λ zs. zs ++ y ∷ []) p.1)

-- a list begins an equal one
pub prefix_equal : (xs ys : List ℕ) → xs ≡ ys → IsPrefix xs ys
prefix_equal xs ys e = ([], append-nil xs ∙ e)

-- what begins a beginning of a list begins the list
pub prefix_of_prefix : (xs ys zs : List ℕ) → IsPrefix xs ys → IsPrefix ys zs → IsPrefix xs zs
prefix_of_prefix xs ys zs p q = (p.0 ++ q.0, sym (append_assoc xs p.0 q.0) ∙ ap (λ ws. ws ++ q.0) p.1 ∙ q.1)
