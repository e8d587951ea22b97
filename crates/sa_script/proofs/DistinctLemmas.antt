-- A name that is not declared yet leaves the declared names distinct.
use Rattle.std.proofs.Common.{◌≡◌, ℕ, ◌+◌, ◌≤◌, Bool, true, false, cond, ltb, not, ◌||◌, List, [], ◌∷◌, ◌++◌, length, Some, None, is_some, refl, sym, subst, ◌∙◌, arith, append_assoc, append-nil}
use Rattle.std.specs.List.{AllByRecursion, IsDistinct, position, position_or_len}
use Rattle.std.specs.Str.{bytes_eq}
use Rattle.std.proofs.lemmas.Bool.{ltb-false}
use Rattle.std.proofs.lemmas.Bool.Decides.{same_from_decides, Decides-like}
use Rattle.std.proofs.lemmas.Map.Keys.{IsDistinct-cons, IsDistinct-head, IsDistinct-tail}
use Rattle.std.proofs.lemmas.Slice.Eq.{bytes_eq-Decides}
use Rattle.sa_script.specs.Contexts.{number_in, is_known}
use Rattle.sa_script.specs.Names.{Known}
use Rattle.sa_script.proofs.ListLemmas.{all_weaker}

-- where no place is found, no element passes
none_pass : {A : Type 0} (p : A → Bool) (xs : List A) → length xs ≤ position_or_len p xs → AllByRecursion (λ x. p x ≡ false) xs
none_pass p [] few = tt
none_pass p (x ∷ xs) few = go (p x) refl few (none_pass p xs)
  where
    go : (b : Bool) → p x ≡ b → length (x ∷ xs) ≤ cond (not b) (1 + position_or_len p xs) 0 → (length xs ≤ position_or_len p xs → AllByRecursion (λ x. p x ≡ false) xs) → AllByRecursion (λ x. p x ≡ false) (x ∷ xs)
    go true e few others = absurd (omega arith)
    go false e few others = (e, others (omega arith))

nowhere : {A : Type 0} (p : A → Bool) (xs : List A) → is_some (position p xs) ≡ false → AllByRecursion (λ x. p x ≡ false) xs
nowhere p xs e = go (ltb (position_or_len p xs) (length xs)) refl e
  where
    go : (b : Bool) → ltb (position_or_len p xs) (length xs) ≡ b → is_some (cond b (Some (position_or_len p xs)) None) ≡ false → AllByRecursion (λ x. p x ≡ false) xs
    go true within e = cc
    go false past e = none_pass p xs (ltb-false _ _ past)

bytes_eq-flips : (a b : List ℕ) → bytes_eq a b ≡ bytes_eq b a
bytes_eq-flips a b = same_from_decides (bytes_eq a b) (bytes_eq b a) (bytes_eq-Decides a b) (Decides-like (bytes_eq b a) (λ e. sym e) (λ e. sym e) (bytes_eq-Decides b a))

-- one more element between two lists
all_between : {A : Type 0} (P : A → Type 0) (xs ys : List A) (n : A) → AllByRecursion P (xs ++ ys) → P n → AllByRecursion P (xs ++ n ∷ [] ++ ys)
all_between P [] ys n a p = (p, a)
all_between P (x ∷ xs) ys n a p = (a.0, all_between P xs ys n a.1 p)

distinct_between : (xs ys : List (List ℕ)) (n : List ℕ) → IsDistinct bytes_eq (xs ++ ys) → AllByRecursion (λ x. bytes_eq x n ≡ false) xs → AllByRecursion (λ y. bytes_eq n y ≡ false) ys → IsDistinct bytes_eq (xs ++ n ∷ [] ++ ys)
distinct_between [] ys n d before behind = IsDistinct-cons bytes_eq n ys behind d
distinct_between (x ∷ xs) ys n d before behind =
    IsDistinct-cons bytes_eq x (xs ++ n ∷ [] ++ ys)
    (all_between (λ y. bytes_eq x y ≡ false) xs ys n (IsDistinct-head bytes_eq x (xs ++ ys) d) before.0)
    (distinct_between xs ys n (IsDistinct-tail bytes_eq x (xs ++ ys) d) before.1 behind)

all_joined : {A : Type 0} (P : A → Type 0) (xs ys : List A) → AllByRecursion P xs → AllByRecursion P ys → AllByRecursion P (xs ++ ys)
all_joined P [] ys a b = b
all_joined P (x ∷ xs) ys a b = (a.0, all_joined P xs ys a.1 b)

-- no declared name is a name that is not known
record IsNew (k : Known) (name : List ℕ) : Type 0 where
  descrs : AllByRecursion (λ n. bytes_eq n name ≡ false) k.descrs
  arrays : AllByRecursion (λ n. bytes_eq n name ≡ false) k.arrays

is_new : (k : Known) (name : List ℕ) → is_known k name ≡ false → IsNew k name
is_new k name e = go (is_some (number_in k.descrs name)) (is_some (number_in k.arrays name)) refl refl e
  where
    go : (a b : Bool) → is_some (number_in k.descrs name) ≡ a → is_some (number_in k.arrays name) ≡ b → (a || b) ≡ false → IsNew k name
    go true b f g e = cc
    go false true f g e = cc
    go false false f g e = record { descrs = nowhere (λ n. bytes_eq n name) k.descrs f; arrays = nowhere (λ n. bytes_eq n name) k.arrays g }

-- a further name of a descriptor, and one of an array
pub distinct_descr : (k : Known) (name : List ℕ) → IsDistinct bytes_eq (k.descrs ++ k.arrays) → is_known k name ≡ false → IsDistinct bytes_eq (k.descrs ++ name ∷ [] ++ k.arrays)
distinct_descr k name d e =
    let new = is_new k name e in
    distinct_between k.descrs k.arrays name d new.descrs (all_weaker (λ n. bytes_eq n name ≡ false) (λ n. bytes_eq name n ≡ false) k.arrays (λ n apart. bytes_eq-flips name n ∙ apart) new.arrays)

pub distinct_array : (k : Known) (name : List ℕ) → IsDistinct bytes_eq (k.descrs ++ k.arrays) → is_known k name ≡ false → IsDistinct bytes_eq (k.descrs ++ (k.arrays ++ name ∷ []))
distinct_array k name d e =
    let new = is_new k name e in
    let names = k.descrs ++ k.arrays in
    subst (IsDistinct bytes_eq) (append_assoc k.descrs k.arrays (name ∷ []))
    (subst (IsDistinct bytes_eq) (append-nil (names ++ name ∷ []))
    (distinct_between names [] name (subst (IsDistinct bytes_eq) (sym (append-nil names)) d) (all_joined (λ n. bytes_eq n name ≡ false) k.descrs k.arrays new.descrs new.arrays) tt))
