-- Lists with one more member, and members that are put in the place of others.
use Rattle.std.proofs.Common.{◌≡◌, ◌≢◌, ◌<◌, ◌⊎◌, ⊎_elim, ℕ, zero, suc, true, nat_lt, get_or, arith, List, [], ◌∷◌, ◌++◌, length, map, set, All, refl, sym, ap, ◌∙◌, subst, inl, inr}
use Rattle.std.proofs.lemmas.Option.{slice_get_within, get_or_from_slice_get}
use Rattle.std.proofs.lemmas.List.Elements.{All-get_or, All-map}
use Rattle.std.proofs.lemmas.Bool.Decides.{nat_tests}
use Rattle.std.specs.Prelude.{slice_get, Some}

module _ {X : Type 0} where
  -- a member of a list with one more is one of the list, or the last
  pub get_more : (xs : List X) (x y : X) (k : ℕ) → slice_get (xs ++ x ∷ []) k ≡ Some y → (slice_get xs k ≡ Some y) ⊎ ((k ≡ length xs) × (x ≡ y))
  get_more [] x y zero e = inr (refl, cc)
  get_more [] x y (suc k) e = absurd (cc e)
  get_more (z ∷ zs) x y zero e = inl e
  get_more (z ∷ zs) x y (suc k) e = ⊎_elim (λ (l : slice_get zs k ≡ Some y). inl l) (λ (r : (k ≡ length zs) × (x ≡ y)). inr (ap suc r.0, r.1)) (get_more zs x y k e)

  -- what was put in a place stands there
  pub get_put : (xs : List X) (k : ℕ) (x y z : X) → slice_get xs k ≡ Some x → slice_get (set xs k y) k ≡ Some z → y ≡ z
  get_put [] k x y z at e = absurd (cc at)
  get_put (w ∷ ws) zero x y z at e = cc
  get_put (w ∷ ws) (suc k) x y z at e = get_put ws k x y z at e

  -- what was put in a place changes no other
  pub get_else : (xs : List X) (k j : ℕ) (y z : X) → j ≢ k → slice_get (set xs k y) j ≡ Some z → slice_get xs j ≡ Some z
  get_else [] k j y z apart e = e
  get_else (w ∷ ws) zero zero y z apart e = absurd (apart refl)
  get_else (w ∷ ws) zero (suc j) y z apart e = e
  get_else (w ∷ ws) (suc k) zero y z apart e = e
  get_else (w ∷ ws) (suc k) (suc j) y z apart e = get_else ws k j y z (λ s. apart (ap suc s)) e

module _ {X Y : Type 0} (f : X → Y) where
  -- a member with the same image leaves the images as they were
  pub map_put : (xs : List X) (k : ℕ) (x y : X) → slice_get xs k ≡ Some x → f y ≡ f x → map f (set xs k y) ≡ map f xs
  map_put [] k x y at same = refl
  map_put (w ∷ ws) zero x y at same = let here : w ≡ x = cc in λ i. (same ∙ ap f (sym here)) i ∷ map f ws
  map_put (w ∷ ws) (suc k) x y at same = ap (λ vs. f w ∷ vs) (map_put ws k x y at same)

  -- the image at a place is that of the member there
  pub map_at : (xs : List X) (k : ℕ) (x : X) → slice_get xs k ≡ Some x → slice_get (map f xs) k ≡ Some (f x)
  map_at [] k x at = absurd (cc at)
  map_at (w ∷ ws) zero x at = let here : w ≡ x = cc in ap (λ v. Some (f v)) here
  map_at (w ∷ ws) (suc k) x at = map_at ws k x at

-- a test of two numbers
pub passed : (k n : ℕ) → true ≡ nat_lt k n → k < n
passed k n e = grind (arith, nat_tests)

module _ {X : Type 0} (P : X → Type 0) where
  -- what is read at a place of a list whose members all meet a condition meets it
  pub all_read : (xs : List X) (k : ℕ) (x : X) → All P xs → k < length xs → x ≡ get_or xs k x → P x
  all_read xs k x a below read = subst P (sym read) (All-get_or P xs k x below a)

-- what all members of a list meet after a map
pub all_of_map : {X Y : Type 0} (P : Y → Type 0) (f : X → Y) (xs : List X) → All (λ x. P (f x)) xs → All P (map f xs)
all_of_map P f xs a = All-map P f xs a

-- a member of a list whose members all meet a condition meets it
pub all_at : {X : Type 0} (P : X → Type 0) (xs : List X) (k : ℕ) (x : X) → All P xs → slice_get xs k ≡ Some x → P x
all_at P xs k x a e = subst P (get_or_from_slice_get xs k x x e) (All-get_or P xs k x (slice_get_within xs k x e) a)
