-- Shares of things, thing by thing.
use Rattle.std.proofs.Common.{◌≡◌, ◌≤◌, ◌<◌, ◌+◌, ℕ, zero, suc, List, [], ◌∷◌, ◌++◌, length, refl, sym, ap, ◌∙◌, subst, arith, append_assoc}
use Rattle.std.specs.List.{AllByRecursion, AllZip}
use Rattle.sa_crew.specs.Shares.{firsts, firsts_in, others, turn_after}

-- one thing more, which is a first one, or is not

pub firsts-here : {P : Type 0} (skip k : ℕ) (xs : List P) (x : P) → turn_after skip k xs ≡ 0 → firsts skip k (xs ++ x ∷ []) ≡ firsts skip k xs ++ x ∷ []
firsts-here skip zero [] x at = refl
firsts-here skip (suc k) [] x at = absurd (omega arith)
firsts-here skip zero (y ∷ ys) x at = ap (λ zs. y ∷ zs) (firsts-here skip skip ys x at)
firsts-here skip (suc k) (y ∷ ys) x at = firsts-here skip k ys x at

pub others-here : {P : Type 0} (skip k : ℕ) (xs : List P) (x : P) → turn_after skip k xs ≡ 0 → others skip k (xs ++ x ∷ []) ≡ others skip k xs
others-here skip zero [] x at = refl
others-here skip (suc k) [] x at = absurd (omega arith)
others-here skip zero (y ∷ ys) x at = others-here skip skip ys x at
others-here skip (suc k) (y ∷ ys) x at = ap (λ zs. y ∷ zs) (others-here skip k ys x at)

pub turn-here : {P : Type 0} (skip k : ℕ) (xs : List P) (x : P) → turn_after skip k xs ≡ 0 → turn_after skip k (xs ++ x ∷ []) ≡ skip
turn-here skip zero [] x at = refl
turn-here skip (suc k) [] x at = absurd (omega arith)
turn-here skip zero (y ∷ ys) x at = turn-here skip skip ys x at
turn-here skip (suc k) (y ∷ ys) x at = turn-here skip k ys x at

pub firsts-there : {P : Type 0} (skip k : ℕ) (xs : List P) (x : P) (turn : ℕ) → turn_after skip k xs ≡ suc turn → firsts skip k (xs ++ x ∷ []) ≡ firsts skip k xs
firsts-there skip zero [] x turn at = absurd (omega arith)
firsts-there skip (suc k) [] x turn at = refl
firsts-there skip zero (y ∷ ys) x turn at = ap (λ zs. y ∷ zs) (firsts-there skip skip ys x turn at)
firsts-there skip (suc k) (y ∷ ys) x turn at = firsts-there skip k ys x turn at

pub others-there : {P : Type 0} (skip k : ℕ) (xs : List P) (x : P) (turn : ℕ) → turn_after skip k xs ≡ suc turn → others skip k (xs ++ x ∷ []) ≡ others skip k xs ++ x ∷ []
others-there skip zero [] x turn at = absurd (omega arith)
others-there skip (suc k) [] x turn at = refl
others-there skip zero (y ∷ ys) x turn at = others-there skip skip ys x turn at
others-there skip (suc k) (y ∷ ys) x turn at = ap (λ zs. y ∷ zs) (others-there skip k ys x turn at)

pub turn-there : {P : Type 0} (skip k : ℕ) (xs : List P) (x : P) (turn : ℕ) → turn_after skip k xs ≡ suc turn → turn_after skip k (xs ++ x ∷ []) ≡ turn
turn-there skip zero [] x turn at = absurd (omega arith)
turn-there skip (suc k) [] x turn at = omega arith
turn-there skip zero (y ∷ ys) x turn at = turn-there skip skip ys x turn at
turn-there skip (suc k) (y ∷ ys) x turn at = turn-there skip k ys x turn at

-- how many there are of each

pub firsts-many : {P : Type 0} (skip k : ℕ) (xs : List P) → length (firsts skip k xs) ≡ firsts_in skip k (length xs)
firsts-many skip k [] = refl
firsts-many skip zero (x ∷ xs) = ap suc (firsts-many skip skip xs)
firsts-many skip (suc k) (x ∷ xs) = firsts-many skip k xs

pub both-many : {P : Type 0} (skip k : ℕ) (xs : List P) → length (firsts skip k xs) + length (others skip k xs) ≡ length xs
both-many skip k [] = refl
both-many skip zero (x ∷ xs) = let rest = both-many skip skip xs in omega arith
both-many skip (suc k) (x ∷ xs) = let rest = both-many skip k xs in omega arith

-- what holds of all things holds of each share

pub firsts-all : {P : Type 0} (R : P → Type 0) (skip k : ℕ) (xs : List P) → AllByRecursion R xs → AllByRecursion R (firsts skip k xs)
firsts-all R skip k [] all = tt
firsts-all R skip zero (x ∷ xs) all = (all.0, firsts-all R skip skip xs all.1)
firsts-all R skip (suc k) (x ∷ xs) all = firsts-all R skip k xs all.1

pub others-all : {P : Type 0} (R : P → Type 0) (skip k : ℕ) (xs : List P) → AllByRecursion R xs → AllByRecursion R (others skip k xs)
others-all R skip k [] all = tt
others-all R skip zero (x ∷ xs) all = others-all R skip skip xs all.1
others-all R skip (suc k) (x ∷ xs) all = (all.0, others-all R skip k xs all.1)

-- what is left of each, as things are put together

few-firsts : (skip k n : ℕ) → firsts_in skip k n ≤ n
few-firsts skip k zero = omega arith
few-firsts skip zero (suc n) = let rest = few-firsts skip skip n in omega arith
few-firsts skip (suc k) (suc n) = let rest = few-firsts skip k n in omega arith

pub first-left : (skip m r : ℕ) → firsts_in skip 0 (m + r) ≡ m → 0 < m + r → (0 < m) × ((n : ℕ) → suc n ≡ m → firsts_in skip skip (n + r) ≡ n)
first-left skip m r left some = go (m + r) refl left
  where
    go : (n : ℕ) → m + r ≡ n → firsts_in skip 0 n ≡ m → (0 < m) × ((n : ℕ) → suc n ≡ m → firsts_in skip skip (n + r) ≡ n)
    go zero whole left = absurd (omega arith)
    go (suc n) whole left = (
      omega arith,
      λ k one.
          let here : k + r ≡ n = omega arith in
          let same : firsts_in skip skip n ≡ k = omega arith in
          ap (firsts_in skip skip) here ∙ same,
    )

pub other-left : (skip k m r : ℕ) → firsts_in skip (suc k) (m + r) ≡ m → 0 < m + r → (0 < r) × ((n : ℕ) → suc n ≡ r → firsts_in skip k (m + n) ≡ m)
other-left skip k m r left some = go (m + r) refl left
  where
    go : (n : ℕ) → m + r ≡ n → firsts_in skip (suc k) n ≡ m → (0 < r) × ((n : ℕ) → suc n ≡ r → firsts_in skip k (m + n) ≡ m)
    go zero whole left = absurd (omega arith)
    go (suc n) whole left =
        let few = few-firsts skip k n in
        (omega arith, λ j one. let here : m + j ≡ n = omega arith in ap (firsts_in skip k) here ∙ left)

-- what was made of the things of each share was made of all

pub zipped : {P : Type 0} (R : P → P → Type 0) (skip k : ℕ) (xs ys : List P) → length xs ≡ length ys → AllZip R (firsts skip k xs) (firsts skip k ys) → AllZip R (others skip k xs) (others skip k ys) → AllZip R xs ys
zipped R skip k [] [] same mine rest = mine
zipped R skip k [] (y ∷ ys) same mine rest = absurd (omega arith)
zipped R skip k (x ∷ xs) [] same mine rest = absurd (omega arith)
zipped R skip zero (x ∷ xs) (y ∷ ys) same mine rest = (mine.0, zipped R skip skip xs ys (omega arith) mine.1 rest)
zipped R skip (suc k) (x ∷ xs) (y ∷ ys) same mine rest = (rest.0, zipped R skip k xs ys (omega arith) mine rest.1)

pub as-long : {P : Type 0} (R : P → P → Type 0) (xs ys : List P) → AllZip R xs ys → length xs ≡ length ys
as-long R [] [] all = refl
as-long R [] (y ∷ ys) all = absurd all
as-long R (x ∷ xs) [] all = absurd all
as-long R (x ∷ xs) (y ∷ ys) all = ap suc (as-long R xs ys all.1)

-- one thing more put together, with what is left of each share

pub record IsWoven {P : Type 0} (skip turn n : ℕ) (mine rest all left_mine left_rest : List P) : Type 0 where
  pub mine_is : firsts skip 0 all ++ left_mine ≡ mine
  pub rest_is : others skip 0 all ++ left_rest ≡ rest
  pub turn_is : turn ≡ turn_after skip 0 all
  pub left_is : firsts_in skip turn (length left_mine + length left_rest) ≡ length left_mine
  pub many : length left_mine + length left_rest ≡ n

pub woven_first : {P : Type 0} (skip turn n : ℕ) (mine rest all left_mine left_rest left_after : List P) (x : P) → IsWoven skip turn (suc n) mine rest all left_mine left_rest → turn ≡ 0 → left_mine ≡ x ∷ left_after
    → IsWoven skip skip n mine rest (all ++ x ∷ []) left_after left_rest
woven_first skip turn n mine rest all left_mine left_rest left_after x is at next =
    let here = sym is.turn_is ∙ at in
    let one : suc (length left_after) ≡ length left_mine = sym (ap length next) in
    let left : firsts_in skip 0 (length left_mine + length left_rest) ≡ length left_mine = ap (λ t. firsts_in skip t (length left_mine + length left_rest)) (sym at) ∙ is.left_is in
    record {
      mine_is = ap (λ xs. xs ++ left_after) (firsts-here skip 0 all x here) ∙ append_assoc (firsts skip 0 all) (x ∷ []) left_after ∙ ap (λ xs. firsts skip 0 all ++ xs) (sym next) ∙ is.mine_is;
      rest_is = ap (λ xs. xs ++ left_rest) (others-here skip 0 all x here) ∙ is.rest_is;
      turn_is = sym (turn-here skip 0 all x here);
      left_is = (first-left skip (length left_mine) (length left_rest) left (let many = is.many in omega arith)).1 (length left_after) one;
      many = let many = is.many in omega arith;
    }

pub woven_other : {P : Type 0} (skip turn n : ℕ) (mine rest all left_mine left_rest left_after : List P) (x : P) → IsWoven skip (suc turn) (suc n) mine rest all left_mine left_rest → left_rest ≡ x ∷ left_after
    → IsWoven skip turn n mine rest (all ++ x ∷ []) left_mine left_after
woven_other skip turn n mine rest all left_mine left_rest left_after x is next =
    let here : turn_after skip 0 all ≡ suc turn = sym is.turn_is in
    let one : suc (length left_after) ≡ length left_rest = sym (ap length next) in
    record {
      mine_is = ap (λ xs. xs ++ left_mine) (firsts-there skip 0 all x turn here) ∙ is.mine_is;
      rest_is = ap (λ xs. xs ++ left_after) (others-there skip 0 all x turn here) ∙ append_assoc (others skip 0 all) (x ∷ []) left_after ∙ ap (λ xs. others skip 0 all ++ xs) (sym next) ∙ is.rest_is;
      turn_is = sym (turn-there skip 0 all x turn here);
      left_is = (other-left skip turn (length left_mine) (length left_rest) is.left_is (let many = is.many in omega arith)).1 (length left_after) one;
      many = let many = is.many in omega arith;
    }

-- shares of which something was made can be put together, and all was made so

pub woven_fits : {P : Type 0} (R : P → P → Type 0) (skip : ℕ) (things mine rest mine' rest' : List P) → mine ≡ firsts skip 0 things → rest ≡ others skip 0 things → AllZip R mine mine' → AllZip R rest rest'
    → firsts_in skip 0 (length mine' + length rest') ≡ length mine'
woven_fits R skip things mine rest mine' rest' first other made_mine made_rest =
    let one = as-long R mine mine' made_mine in
    let two = as-long R rest rest' made_rest in
    let a = ap length first in
    let b = ap length other in
    let both = both-many skip 0 things in
    let whole : length mine' + length rest' ≡ length things = omega arith in
    ap (firsts_in skip 0) whole ∙ sym (firsts-many skip 0 things) ∙ sym a ∙ one

pub all_made : {P : Type 0} (R : P → P → Type 0) (skip : ℕ) (things mine rest mine' rest' all : List P) → mine ≡ firsts skip 0 things → rest ≡ others skip 0 things → AllZip R mine mine' → AllZip R rest rest'
    → firsts skip 0 all ≡ mine' → others skip 0 all ≡ rest' → length all ≡ length mine' + length rest' → AllZip R things all
all_made R skip things mine rest mine' rest' all first other made_mine made_rest first' other' many =
    let one = as-long R mine mine' made_mine in
    let two = as-long R rest rest' made_rest in
    let a = ap length first in
    let b = ap length other in
    let both = both-many skip 0 things in
    zipped R skip 0 things all (omega arith)
    (subst (λ xs. AllZip R xs (firsts skip 0 all)) first (subst (AllZip R mine) (sym first') made_mine))
    (subst (λ xs. AllZip R xs (others skip 0 all)) other (subst (AllZip R rest) (sym other') made_rest))
