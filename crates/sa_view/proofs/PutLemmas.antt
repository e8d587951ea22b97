-- What is put at distinct places of a list.
use Rattle.std.proofs.Common.{◌≡◌, ℕ, ◌<◌, ◌==◌, nat_eq, false, List, [], ◌∷◌, length, get_or, set, refl, sym, ap, ◌∙◌, arith, length-set, get_or-set_same, get_or-set_other}
use Rattle.std.specs.List.{AllByRecursion, IsDistinct, list_any}
use Rattle.std.proofs.lemmas.Bool.{or_from, or_parts, eqb-false, ne_eqb}
use Rattle.sa_view.specs.Laws.{ArePlaces, IsPut}
use Rattle.sa_view.specs.Views.{put_at, read_at}

length-put_at : {A : Type 0} (xs : List A) (places : List ℕ) (ys : List A) → length (put_at xs places ys) ≡ length xs
length-put_at xs [] ys = refl
length-put_at xs (p ∷ ps) [] = refl
length-put_at xs (p ∷ ps) (y ∷ ys) = length-put_at (set xs p y) ps ys ∙ length-set xs p y

-- no other place changes
put-other : {A : Type 0} (d : A) (xs : List A) (places : List ℕ) (ys : List A) (i : ℕ) → list_any (λ p. p == i) places ≡ false → get_or (put_at xs places ys) i d ≡ get_or xs i d
put-other d xs [] ys i other = refl
put-other d xs (p ∷ ps) [] i other = refl
put-other d xs (p ∷ ps) (y ∷ ys) i other =
    let both = or_parts (p == i) (list_any (λ q. q == i) ps) other in
    let apart = eqb-false p i both.0 in
    put-other d (set xs p y) ps ys i both.1 ∙ get_or-set_other xs p i y d (λ is. apart (sym is))

-- a place that is none of these, told in the two orders
not_among : (p : ℕ) (ps : List ℕ) → AllByRecursion (λ q. nat_eq p q ≡ false) ps → list_any (λ q. q == p) ps ≡ false
not_among p [] other = refl
not_among p (q ∷ qs) other = or_from (q == p) (list_any (λ r. r == p) qs) (ne_eqb q p (λ is. eqb-false p q other.0 (sym is))) (not_among p qs other.1)

read-put : {A : Type 0} (d : A) (xs : List A) (places : List ℕ) (ys : List A) → length places ≡ length ys → IsDistinct nat_eq places → AllByRecursion (λ p. p < length xs) places → read_at d (put_at xs places ys) places ≡ ys
unfolding IsDistinct
read-put d xs [] [] many distinct within = refl
read-put d xs [] (y ∷ ys) many distinct within = absurd (omega arith)
read-put d xs (p ∷ ps) [] many distinct within = absurd (omega arith)
read-put d xs (p ∷ ps) (y ∷ ys) many distinct within =
    let first = put-other d (set xs p y) ps ys p (not_among p ps distinct.0) ∙ get_or-set_same xs p y d within.0 in
    let room : AllByRecursion (λ q. q < length (set xs p y)) ps = rw (length-set xs p y) within.1 in
    let rest = read-put d (set xs p y) ps ys (omega arith) distinct.1 room in
    ap (λ z. z ∷ read_at d (put_at (set xs p y) ps ys) ps) first ∙ ap (λ zs. y ∷ zs) rest

pub put-is_read : {A : Type 0} (d : A) (xs : List A) (places : List ℕ) (ys : List A) → ArePlaces (length xs) (length ys) places → IsPut d xs places ys (put_at xs places ys)
put-is_read d xs places ys are = record { read = read-put d xs places ys are.count are.distinct are.within; kept = put-other d xs places ys; as_long = length-put_at xs places ys }
