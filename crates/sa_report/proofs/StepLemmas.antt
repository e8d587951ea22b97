-- Elements of lists by number, and what stands behind them.
use Rattle.std.proofs.Common.{◌≡◌, ℕ, zero, suc, ◌+◌, ◌<◌, List, [], ◌∷◌, ◌++◌, length, map, get_or, drop, Some, None, refl, sym, ap, ◌∙◌, arith, add-one, drop-cons, append_assoc}
use Rattle.std.specs.List.{AllByRecursion, range_with_len, slice_get}
use Rattle.std.proofs.lemmas.List.FromFn.{get_or-map-range_with_len, length-map-range_with_len}
use Rattle.std.proofs.lemmas.Option.{get_or_from_slice_get, slice_get_within, slice_get-get_or}

-- the element of a number, and what stands behind it
pub drop-at : {X : Type 0} (xs : List X) (k : ℕ) (x : X) → slice_get xs k ≡ Some x → drop k xs ≡ x ∷ drop (k + 1) xs
drop-at xs k x got = let below = slice_get_within xs k x got in let at = get_or_from_slice_get xs k x x got in rw (drop-cons xs k x, add-one, at) refl

-- a number within a list has an element
pub not-none : {X : Type 0} (xs : List X) (k : ℕ) → k < length xs → slice_get xs k ≡ None → ⊥
not-none [] k below none = omega arith
not-none (x ∷ xs) zero below none = cc
not-none (x ∷ xs) (suc k) below none = not-none xs k (omega arith) none

-- an element of what a function makes of numbers
pub made-at : {X : Type 0} (f : ℕ → X) (n k : ℕ) → k < n → slice_get (map f (range_with_len 0 n)) k ≡ Some (f k)
made-at f n k below =
    let long = length-map-range_with_len f 0 n in
    slice_get-get_or (map f (range_with_len 0 n)) k (f k) (omega arith) ∙ ap Some (get_or-map-range_with_len f 0 n k k (f k) below (omega arith))

-- functions that agree on numbers make the same of them
made-same : {X : Type 0} (f g : ℕ → X) (a n : ℕ) → ((k : ℕ) → k < a + n → f k ≡ g k) → map f (range_with_len a n) ≡ map g (range_with_len a n)
made-same f g a zero same = refl
made-same f g a (suc n) same =
    let here : f a ≡ g a = same a (omega arith) in
    let rest : map f (range_with_len (a + 1) n) ≡ map g (range_with_len (a + 1) n) = made-same f g (a + 1) n (λ k below. same k (omega arith)) in
    λ i. here i ∷ rest i

pub made-alike : {X : Type 0} (f g : ℕ → X) (n : ℕ) → ((k : ℕ) → k < n → f k ≡ g k) → map f (range_with_len 0 n) ≡ map g (range_with_len 0 n)
made-alike f g n same = made-same f g 0 n (λ k below. same k (omega arith))

-- what holds of each element holds of one that is got by number
pub all-at : {X : Type 0} (P : X → Type 0) (xs : List X) (k : ℕ) (d : X) → AllByRecursion P xs → k < length xs → P (get_or xs k d)
all-at P [] k d all below = absurd (omega arith)
all-at P (x ∷ xs) zero d all below = all.0
all-at P (x ∷ xs) (suc k) d all below = all-at P xs k d all.1 (omega arith)

-- what is written, and what is left to write, after one more part
pub onward : {X : Type 0} (new old part rest left total : List X) → new ≡ old ++ part → left ≡ part ++ rest → old ++ left ≡ total → new ++ rest ≡ total
onward {X} new old part rest left total written split before =
    ap (λ xs. xs ++ rest) written ∙ append_assoc old part rest ∙ ap (λ xs. old ++ xs) (sym split) ∙ before
