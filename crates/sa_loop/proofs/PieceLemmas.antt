-- Lists in pieces, and an item of a piece that is replaced.
use Rattle.std.proofs.Common.{◌≡◌, ◌≤◌, ◌<◌, ◌+◌, ℕ, zero, suc, List, [], ◌∷◌, ◌++◌, length, map, take, drop, sum, replicate, refl, sym, ap, ◌∙◌, arith, get_or, set}
use Rattle.std.proofs.lemmas.List.Sums.{sum_by-cons, sum_by_more_le}
use Rattle.std.proofs.lemmas.List.{drop-drop, drop-set-add, drop-set-lt, length-replicate, take-set-le}
use Rattle.std.proofs.Math.Seq.{take-append_seam, drop-append_seam, take-set-lt}
use Rattle.sa_loop.specs.Runs.{pieces}

pub sum-cons : (n : ℕ) (ns : List ℕ) → sum (n ∷ ns) ≡ n + sum ns
sum-cons n ns = sum_by-cons (λ x. x) n ns

-- the pieces of a list where one item is replaced
pub pieces-set : {A : Type 0} (ns : List ℕ) (xs : List A) (a p : ℕ) (x : A) → a < length ns → p < get_or ns a 0 → pieces ns (set xs (sum (take a ns) + p) x) ≡ set (pieces ns xs) a (set (get_or (pieces ns xs) a []) p x)
pieces-set [] xs a p x below inside = absurd (omega arith)
pieces-set (n ∷ ns) xs zero p x below inside =
    let at : sum (take 0 (n ∷ ns)) + p ≡ p = omega arith in
    ap (λ k. pieces (n ∷ ns) (set xs k x)) at
    ∙ ap (λ ys. ys ∷ pieces ns (drop n (set xs p x))) (take-set-lt n xs p x inside)
    ∙ ap (λ ys. set (take n xs) p x ∷ pieces ns ys) (drop-set-lt n xs p x inside)
pieces-set (n ∷ ns) xs (suc a) p x below inside =
    let rest = sum (take a ns) + p in
    let total = sum-cons n (take a ns) in
    let at : sum (take (suc a) (n ∷ ns)) + p ≡ n + rest = omega arith in
    ap (λ k. pieces (n ∷ ns) (set xs k x)) at
    ∙ ap (λ ys. ys ∷ pieces ns (drop n (set xs (n + rest) x))) (take-set-le n xs (n + rest) x (omega arith))
    ∙ ap (λ ys. take n xs ∷ pieces ns ys) (drop-set-add n xs rest x)
    ∙ ap (λ ys. take n xs ∷ ys) (pieces-set ns (drop n xs) a p x (omega arith) inside)

-- each piece lies within the list
pub sum-within : (ns : List ℕ) (k : ℕ) → k < length ns → sum (take k ns) + get_or ns k 0 ≤ sum ns
sum-within ns k below = sum_by_more_le (λ x. x) ns k 0 below

-- one piece
pub piece-at : {A : Type 0} (ns : List ℕ) (xs : List A) (slot : ℕ) → slot < length ns → get_or (pieces ns xs) slot [] ≡ take (get_or ns slot 0) (drop (sum (take slot ns)) xs)
piece-at [] xs slot below = absurd (omega arith)
piece-at (n ∷ ns) xs zero below = refl
piece-at (n ∷ ns) xs (suc slot) below =
    piece-at ns (drop n xs) slot (omega arith)
    ∙ ap (take (get_or ns slot 0)) (drop-drop (sum (take slot ns)) n xs ∙ ap (λ k. drop k xs) (sym (sum-cons n (take slot ns))))

-- pieces of one item alone
pub pieces-replicate : {A : Type 0} (ns : List ℕ) (x : A) → pieces ns (replicate (sum ns) x) ≡ map (λ n. replicate n x) ns
pieces-replicate [] x = refl
pieces-replicate (n ∷ ns) x =
    let both : replicate (sum (n ∷ ns)) x ≡ replicate n x ++ replicate (sum ns) x = ap (λ k. replicate k x) (sum-cons n ns) ∙ replicate-add n (sum ns) x in
    let long : length (replicate n x) ≡ n = length-replicate n x in
    ap (pieces (n ∷ ns)) both
    ∙ ap (λ p. p ∷ pieces ns (drop n (replicate n x ++ replicate (sum ns) x))) (ap (λ k. take k (replicate n x ++ replicate (sum ns) x)) (sym long) ∙ take-append_seam (replicate n x) (replicate (sum ns) x))
    ∙ ap (λ q. replicate n x ∷ pieces ns q) (ap (λ k. drop k (replicate n x ++ replicate (sum ns) x)) (sym long) ∙ drop-append_seam (replicate n x) (replicate (sum ns) x))
    ∙ ap (λ q. replicate n x ∷ q) (pieces-replicate ns x)
  where
    replicate-add : {A : Type 0} (m n : ℕ) (x : A) → replicate (m + n) x ≡ replicate m x ++ replicate n x
    replicate-add zero n x = let e : 0 + n ≡ n = omega arith in ap (λ k. replicate k x) e
    replicate-add (suc m) n x = let e : suc m + n ≡ suc (m + n) = omega arith in ap (λ k. replicate k x) e ∙ ap (λ xs. x ∷ xs) (replicate-add m n x)
