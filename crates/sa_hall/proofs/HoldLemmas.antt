-- Lists of what is held, by number, and the numbers of the locks.
use Rattle.std.proofs.Common.{◌≡◌, ◌<◌, ◌+◌, ◌==◌, ◌||◌, ℕ, zero, suc, Bool, true, false, List, [], ◌∷◌, ◌++◌, length, set, take, get_or, replicate, All, Option, Some, None, unwrap_or, inl, inr, refl, sym, ap, ◌∙◌, subst, arith}
use Rattle.std.specs.List.Sorted.{IsStrictlyIncreasing}
use Rattle.std.proofs.lemmas.Bool.{cases_Bool}
use Rattle.std.proofs.lemmas.Bool.Decides.{nat_tests}
use Rattle.std.proofs.lemmas.List.Elements.{All-head, All-tail}
use Rattle.std.proofs.lemmas.List.{get_or-take, length-take-le}
use Rattle.sa_tie.specs.Seated.{TableId}
use Rattle.sa_journal.specs.Table.{Shelves}
use Rattle.sa_journal.specs.Shapes.{Shape}
use Rattle.sa_journal.specs.Said.{Said}
use Rattle.sa_journal.specs.Parties.{among, owed_by}
use Rattle.sa_hall.specs.Domains.{Kept, HasEntries, IsPlaced}
use Rattle.sa_hall.specs.Holds.{held_at, is_held, AreTaken, Takes, owed_for}

-- what stands at a place put there again
pub set_there : {X : Type 0} (xs : List X) (k : ℕ) (x : X) → get_or xs k x ≡ x → set xs k x ≡ xs
set_there [] k x e = refl
set_there (y ∷ xs) zero x e = ap (λ z. z ∷ xs) (sym e)
set_there (y ∷ xs) (suc k) x e = ap (λ ys. y ∷ ys) (set_there xs k x e)

-- numbers

pub same_number : (m n : ℕ) → (m == n) ≡ true → m ≡ n
same_number m n e = grind (arith, nat_tests)

pub itself : (n : ℕ) → (n == n) ≡ true
itself n = grind (arith, nat_tests)

or_true : (b : Bool) → (b || true) ≡ true
or_true true = refl
or_true false = refl

or_false : (b : Bool) → (b || false) ≡ b
or_false true = refl
or_false false = refl

or_apart : (b c d : Bool) → (b || (c || d)) ≡ ((b || c) || d)
or_apart true c d = refl
or_apart false c d = refl

pub among-end : (d n : ℕ) (ns : List ℕ) → among d (ns ++ n ∷ []) ≡ (among d ns || (n == d))
among-end d n [] = or_false (n == d)
among-end d n (x ∷ xs) = ap (λ b. (x == d) || b) (among-end d n xs) ∙ or_apart (x == d) (among d xs) (n == d)

pub among-all : (P : ℕ → Type 0) (d : ℕ) (ds : List ℕ) → All P ds → among d ds ≡ true → P d
among-all P d [] a e = absurd (cc e)
among-all P d (x ∷ xs) a e = go (x == d) refl (λ r. among-all P d xs (All-tail P x xs a) r) where
  go : (b : Bool) → (x == d) ≡ b → (among d xs ≡ true → P d) → P d
  go true same rest = subst P (same_number x d same) (All-head P x xs a)
  go false apart rest = rest (sym (ap (λ b. b || among d xs) apart) ∙ e)

-- in rising numbers those before one are below it
pub rising-below : (xs : List ℕ) (i : ℕ) → IsStrictlyIncreasing xs → i < length xs → All (λ n. n < get_or xs i 0) (take i xs)
rising-below xs i rising h k d below =
    let count = length-take-le i xs (omega arith) in
    let within : k < i = omega arith in
    let here : get_or (take i xs) k d ≡ get_or xs k d = get_or-take i xs k d within in
    let same : get_or xs k d ≡ get_or xs k 0 = same-default xs k d 0 (omega arith) in
    let up = upward i k within h in
    subst (λ m. m < get_or xs i 0) (sym (here ∙ same)) up
  where
    same-default : (ys : List ℕ) (j : ℕ) (d e : ℕ) → j < length ys → get_or ys j d ≡ get_or ys j e
    same-default [] j d e h = absurd (omega arith)
    same-default (y ∷ ys) zero d e h = refl
    same-default (y ∷ ys) (suc j) d e h = same-default ys j d e (omega arith)

    upward : (j k : ℕ) → k < j → j < length xs → get_or xs k 0 < get_or xs j 0
    upward zero k h l = absurd (omega arith)
    upward (suc j) k h l =
        let e : suc j ≡ j + 1 = omega arith in
        let step : get_or xs j 0 < get_or xs (suc j) 0 = subst (λ m. get_or xs j 0 < get_or xs m 0) (sym e) (rising j (omega arith)) in
        elim (cases_Bool (k == j)) [
          | inl same ↦ subst (λ m. get_or xs m 0 < get_or xs (suc j) 0) (sym (same_number k j same)) step
          | inr apart ↦ let lower = upward j k (other k j apart h) (omega arith) in omega arith
        ]
      where
        other : (k j : ℕ) → (k == j) ≡ false → k < suc j → k < j
        other k j e h = grind (arith, nat_tests)

-- what stands at a number

pub none-at : {X : Type 0} (n d : ℕ) → held_at {X = X} (replicate n None) d ≡ None
none-at zero d = refl
none-at (suc n) zero = refl
none-at (suc n) (suc d) = none-at n d

pub set-at : {X : Type 0} (os : List (Option X)) (n : ℕ) (o : Option X) → n < length os → held_at (set os n o) n ≡ o
set-at [] n o h = absurd (omega arith)
set-at (x ∷ os) zero o h = refl
set-at (x ∷ os) (suc n) o h = set-at os n o (omega arith)

pub set-else : {X : Type 0} (os : List (Option X)) (n d : ℕ) (o : Option X) → (n == d) ≡ false → held_at (set os n o) d ≡ held_at os d
set-else [] n d o e = refl
set-else (x ∷ os) zero zero o e = absurd (cc e)
set-else (x ∷ os) zero (suc d) o e = refl
set-else (x ∷ os) (suc n) zero o e = refl
set-else (x ∷ os) (suc n) (suc d) o e = set-else os n d o (fewer n d e)
  where
    fewer : (n d : ℕ) → (suc n == suc d) ≡ false → (n == d) ≡ false
    fewer n d e = grind (arith, nat_tests)

pub some-same : {X : Type 0} (x y : X) → ◌≡◌ {A = Option X} (Some x) (Some y) → x ≡ y
some-same x y e = ap (λ o. unwrap_or o x) e

module _ {D : Type 0} (roll : Shelves) (ties : List TableId) (shapes : List Shape) where
  -- nothing is held
  pub taken-none : (its : List (Option (Kept D))) → its ≡ replicate 8 None → AreTaken roll ties shapes [] its
  taken-none its e = record {
    held = λ d. ap is_held (none d);
    placed = λ d k at. absurd (cc (sym (none d) ∙ at));
    entries = λ d k at. absurd (cc (sym (none d) ∙ at));
  }
    where
      none : (d : ℕ) → held_at its d ≡ None
      none d = ap (λ os. held_at os d) e ∙ none-at 8 d

  -- one more lock is taken
  pub taken-more : (ns : List ℕ) (n : ℕ) (its new : List (Option (Kept D))) → AreTaken roll ties shapes ns its → Takes roll ties shapes n its new → AreTaken roll ties shapes (ns ++ n ∷ []) new
  taken-more ns n its new are takes = record {
    held = λ d. held d (n == d) refl;
    placed = λ d k at. (each d (n == d) refl k at).0;
    entries = λ d k at. (each d (n == d) refl k at).1;
  }
    where
      here : held_at new n ≡ Some takes.got
      here = ap (λ os. held_at os n) takes.its ∙ set-at its n (Some takes.got) takes.below

      else : (d : ℕ) → (n == d) ≡ false → held_at new d ≡ held_at its d
      else d e = ap (λ os. held_at os d) takes.its ∙ set-else its n d (Some takes.got) e

      held : (d : ℕ) (b : Bool) → (n == d) ≡ b → is_held (held_at new d) ≡ among d (ns ++ n ∷ [])
      held d true e = ap (λ m. is_held (held_at new m)) (sym (same_number n d e)) ∙ ap is_held here ∙ sym (among-end d n ns ∙ ap (λ b. among d ns || b) e ∙ or_true (among d ns))
      held d false e = ap is_held (else d e) ∙ are.held d ∙ sym (among-end d n ns ∙ ap (λ b. among d ns || b) e ∙ or_false (among d ns))

      each : (d : ℕ) (b : Bool) → (n == d) ≡ b → (k : Kept D) → held_at new d ≡ Some k → IsPlaced roll ties shapes d k × HasEntries k.contents.layout
      each d true e k at =
          let same : takes.got ≡ k = some-same takes.got k (sym here ∙ ap (held_at new) (same_number n d e) ∙ at) in
          subst (λ (x : ℕ × Kept D). IsPlaced roll ties shapes x.0 x.1 × HasEntries x.1.contents.layout) (λ i. (same_number n d e i, same i)) (takes.placed, takes.entries)
      each d false e k at = let before = sym (else d e) ∙ at in (are.placed d k before, are.entries d k before)

  -- what was held stays, where the lock that is taken is above the others
  pub taken-keeps : (ns : List ℕ) (n : ℕ) (its new : List (Option (Kept D))) → AreTaken roll ties shapes ns its → Takes roll ties shapes n its new → All (λ m. m < n) ns → (d : ℕ) (k : Kept D) → held_at its d ≡ Some k → held_at new d ≡ Some k
  taken-keeps ns n its new are takes above d k at =
      let named : among d ns ≡ true = sym (are.held d) ∙ ap is_held at in
      let below : d < n = among-all (λ m. m < n) d ns above named in
      ap (λ os. held_at os d) takes.its ∙ set-else its n d (Some takes.got) (apart n d below) ∙ at
    where
      apart : (n d : ℕ) → d < n → (n == d) ≡ false
      apart n d h = grind (arith, nat_tests)

  -- a line that has the held locks is owed to each of them
  pub owed-held : (s : Said) (ns : List ℕ) (its : List (Option (Kept D))) → AreTaken roll ties shapes ns its → s.locks ≡ ns → owed_by s ≡ owed_for its
  owed-held s ns its are e =
      let h : (d : ℕ) → among d s.locks ≡ is_held (held_at its d) = λ d. ap (among d) e ∙ sym (are.held d) in
      λ i. h 0 i ∷ h 1 i ∷ h 2 i ∷ h 3 i ∷ h 4 i ∷ h 5 i ∷ h 6 i ∷ h 7 i ∷ true ∷ []
