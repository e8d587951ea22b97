-- All descriptors before they are under locks, and after.
use Rattle.std.proofs.Common.{◌≡◌, ◌≤◌, nat_lt, ℕ, zero, suc, List, [], ◌∷◌, ◌++◌, length, map, Option, Some, None, IfSome, refl, sym, subst, arith, slice_get}
use Rattle.std.proofs.lemmas.Bool.{le-ltb}
use Rattle.sa_tie.specs.Seated.{TableId}
use Rattle.sa_journal.specs.Table.{Shelves}
use Rattle.sa_journal.specs.Shapes.{Shape}
use Rattle.sa_hall.specs.Domains.{Kept, DomainValue, HasEntries, IsPlaced}
use Rattle.sa_hall.specs.Holds.{held_at, is_held, in_some, OfHeld}
use Rattle.sa_hall.specs.Halls.{AreQuiet}

-- of each that is held, by number and by list

pub of-each : {X : Type 0} (P : X → Type 0) (os : List (Option X)) → ((d : ℕ) (x : X) → held_at os d ≡ Some x → P x) → OfHeld P os
of-each P [] h = tt
of-each P (None ∷ os) h = (tt, of-each P os (λ d x e. h (suc d) x e))
of-each P (Some x ∷ os) h = (h 0 x refl, of-each P os (λ d y e. h (suc d) y e))

pub of-some : {X : Type 0} (P : X → Type 0) (o : Option X) (x : X) → IfSome o P → o ≡ Some x → P x
of-some P o x p e = subst (λ y. IfSome y P) e p

pub of-one : {X : Type 0} (P : X → Type 0) (os : List (Option X)) → OfHeld P os → (d : ℕ) (x : X) → held_at os d ≡ Some x → P x
of-one P [] a d x e = cc
of-one P (o ∷ os) a zero x e = of-some P o x a.0 e
of-one P (o ∷ os) a (suc d) x e = of-one P os a.1 d x e

pub held-some : {X Y : Type 0} (f : X → Y) (o : Option X) → is_held (in_some o f) ≡ is_held o
held-some f None = refl
held-some f (Some x) = refl

-- a list without its last member, and that

get-less : {X Y : Type 0} (f : X → Y) (xs : List X) (x : X) (d : ℕ) (y : Y) → slice_get (map f xs) d ≡ Some y → slice_get (map f (xs ++ x ∷ [])) d ≡ Some y
get-less f [] x d y e = cc
get-less f (z ∷ xs) x zero y e = e
get-less f (z ∷ xs) x (suc d) y e = get-less f xs x d y e

get-last : {X Y : Type 0} (f : X → Y) (xs : List X) (x : X) → slice_get (map f (xs ++ x ∷ [])) (length xs) ≡ Some (f x)
get-last f [] x = refl
get-last f (z ∷ xs) x = get-last f xs x

module _ {D : Type 0} (P : ℕ → Kept D → Type 0) where
  abbrev pub OfAll : List (DomainValue D) → Type 0
  OfAll ds = (d : ℕ) (k : Kept D) → slice_get (map (λ x. x.it) ds) d ≡ Some k → P d k

  pub all-less : (ds es : List (DomainValue D)) (x : DomainValue D) → ds ≡ es ++ x ∷ [] → OfAll ds → OfAll es
  all-less ds es x e all d k at = subst OfAll e all d k (get-less (λ y. y.it) es x d k at)

  pub all-last : (ds es : List (DomainValue D)) (x : DomainValue D) (n : ℕ) → ds ≡ es ++ x ∷ [] → OfAll ds → length es ≡ n → P n x.it
  all-last ds es x n e all count = subst (λ m. P m x.it) count (subst OfAll e all (length es) x.it (get-last (λ y. y.it) es x))

-- eight descriptors
module _ {D : Type 0} (roll : Shelves) (ties : List TableId) (shapes : List Shape) where
  abbrev pub IsIn : ℕ → Option (Kept D) → Type 0
  IsIn d o = IfSome o (λ k. IsPlaced roll ties shapes d k × HasEntries k.contents.layout)

  pub are-quiet : (o0 o1 o2 o3 o4 o5 o6 o7 : Option (Kept D)) → length shapes ≤ 8 → is_held o0 ≡ nat_lt 0 (length shapes) → is_held o1 ≡ nat_lt 1 (length shapes) → is_held o2 ≡ nat_lt 2 (length shapes) → is_held o3 ≡ nat_lt 3 (length shapes) → is_held o4 ≡ nat_lt 4 (length shapes) → is_held o5 ≡ nat_lt 5 (length shapes) → is_held o6 ≡ nat_lt 6 (length shapes) → is_held o7 ≡ nat_lt 7 (length shapes) → IsIn 0 o0 → IsIn 1 o1 → IsIn 2 o2 → IsIn 3 o3 → IsIn 4 o4 → IsIn 5 o5 → IsIn 6 o6 → IsIn 7 o7 → AreQuiet roll ties shapes (o0 ∷ o1 ∷ o2 ∷ o3 ∷ o4 ∷ o5 ∷ o6 ∷ o7 ∷ [])
  are-quiet o0 o1 o2 o3 o4 o5 o6 o7 most h0 h1 h2 h3 h4 h5 h6 h7 p0 p1 p2 p3 p4 p5 p6 p7 = record { there = there; placed = λ d k e. (each d k e).0; entries = λ d k e. (each d k e).1 }
    where
      there : (d : ℕ) → is_held (held_at (o0 ∷ o1 ∷ o2 ∷ o3 ∷ o4 ∷ o5 ∷ o6 ∷ o7 ∷ []) d) ≡ nat_lt d (length shapes)
      there zero = h0
      there (suc zero) = h1
      there (suc (suc zero)) = h2
      there (suc (suc (suc zero))) = h3
      there (suc (suc (suc (suc zero)))) = h4
      there (suc (suc (suc (suc (suc zero))))) = h5
      there (suc (suc (suc (suc (suc (suc zero)))))) = h6
      there (suc (suc (suc (suc (suc (suc (suc zero))))))) = h7
      there (suc (suc (suc (suc (suc (suc (suc (suc d)))))))) = sym (le-ltb (suc (suc (suc (suc (suc (suc (suc (suc d)))))))) (length shapes) (omega arith))

      each : (d : ℕ) (k : Kept D) → held_at (o0 ∷ o1 ∷ o2 ∷ o3 ∷ o4 ∷ o5 ∷ o6 ∷ o7 ∷ []) d ≡ Some k → IsPlaced roll ties shapes d k × HasEntries k.contents.layout
      each zero k e = of-some (λ x. IsPlaced roll ties shapes 0 x × HasEntries x.contents.layout) o0 k p0 e
      each (suc zero) k e = of-some (λ x. IsPlaced roll ties shapes 1 x × HasEntries x.contents.layout) o1 k p1 e
      each (suc (suc zero)) k e = of-some (λ x. IsPlaced roll ties shapes 2 x × HasEntries x.contents.layout) o2 k p2 e
      each (suc (suc (suc zero))) k e = of-some (λ x. IsPlaced roll ties shapes 3 x × HasEntries x.contents.layout) o3 k p3 e
      each (suc (suc (suc (suc zero)))) k e = of-some (λ x. IsPlaced roll ties shapes 4 x × HasEntries x.contents.layout) o4 k p4 e
      each (suc (suc (suc (suc (suc zero))))) k e = of-some (λ x. IsPlaced roll ties shapes 5 x × HasEntries x.contents.layout) o5 k p5 e
      each (suc (suc (suc (suc (suc (suc zero)))))) k e = of-some (λ x. IsPlaced roll ties shapes 6 x × HasEntries x.contents.layout) o6 k p6 e
      each (suc (suc (suc (suc (suc (suc (suc zero))))))) k e = of-some (λ x. IsPlaced roll ties shapes 7 x × HasEntries x.contents.layout) o7 k p7 e
      each (suc (suc (suc (suc (suc (suc (suc (suc d)))))))) k e = cc
