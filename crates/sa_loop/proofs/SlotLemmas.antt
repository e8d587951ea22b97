-- Arrays among those of their home.
use Rattle.std.proofs.Common.{◌≡◌, ◌≢◌, ◌≤◌, ◌<◌, ◌+◌, not, ℕ, zero, suc, eqb, Bool, true, false, cond, ltb, List, [], ◌∷◌, length, map, take, sum, get_or, refl, sym, ap, ◌∙◌, subst, arith}
use Rattle.std.specs.List.{AllByRecursion, filter, count_by}
use Rattle.std.proofs.lemmas.Bool.{and_from, and_parts, eq-eqb, ltb-false, ltb-true}
use Rattle.std.proofs.lemmas.List.{length-map}
use Rattle.std.proofs.lemmas.List.Sums.{sum_by-cons, length-filter, count_by-le-length}
use Rattle.std.proofs.Math.Seq.{take_all}
use Rattle.sa_alloc.specs.Consistency.{IsSmall}
use Rattle.std.proofs.lemmas.List.Elements.{All-from_recursion}
use Rattle.sa_plain.specs.Plains.{HasWidth, most_cells}
use Rattle.sa_plain.specs.declared.kind.PlainKind.{PlainKind}
use Rattle.sa_plain.specs.declared.kind.PlainKind.TheVariants as plain
use Rattle.sa_call.specs.declared.decls.ArrayDecl.{ArrayDecl}
use Rattle.sa_call.specs.declared.decls.Kind.{Kind}
use Rattle.sa_call.specs.declared.decls.Kind.TheVariants as kind
use Rattle.sa_hall.specs.Domains.{ArePlains}
use Rattle.sa_call.specs.Decls.{Declared, HasWidths, IsDeclared, array_at, length_at, home_of, kind_of, is_strings, is_strings_array, entries_at, entries_of}
use Rattle.sa_call.specs.Told.{is_among, index_at_home}
use Rattle.sa_loop.specs.States.{lengths_of, plain_kind, plain_shape, plains_of}
use Rattle.sa_loop.proofs.PieceLemmas.{sum-cons}

-- one more of a kind, and one more of another
one_more : {A : Type 0} (p : A → Bool) (x : A) (xs : List A) → p x ≡ true → count_by p (x ∷ xs) ≡ suc (count_by p xs)
one_more p x xs e =
    let one : cond {A = ℕ} (p x) 1 0 ≡ 1 = ap (λ (b : Bool). cond {A = ℕ} b 1 0) e in
    let cons = sum_by-cons (λ a. cond {A = ℕ} (p a) 1 0) x xs in
    omega arith

no_more : {A : Type 0} (p : A → Bool) (x : A) (xs : List A) → p x ≡ false → count_by p (x ∷ xs) ≡ count_by p xs
no_more p x xs e =
    let none : cond {A = ℕ} (p x) 1 0 ≡ 0 = ap (λ (b : Bool). cond {A = ℕ} b 1 0) e in
    let cons = sum_by-cons (λ a. cond {A = ℕ} (p a) 1 0) x xs in
    omega arith

-- of two places the one behind has more before it of a kind that the one before is of
slot_rises : {A : Type 0} (p : A → Bool) (xs : List A) (i j : ℕ) (d : A) → i < j → j ≤ length xs → p (get_or xs i d) ≡ true → count_by p (take i xs) < count_by p (take j xs)
slot_rises p [] i j d before within e = absurd (omega arith)
slot_rises p (x ∷ xs) i zero d before within e = absurd (omega arith)
slot_rises p (x ∷ xs) zero (suc j) d before within e = let more = one_more p x (take j xs) e in let none : count_by p (take 0 (x ∷ xs)) ≡ 0 = refl in omega arith
slot_rises p (x ∷ xs) (suc i) (suc j) d before within e =
    let rest = slot_rises p xs i j d (omega arith) (omega arith) e in
    let left = sum_by-cons (λ a. cond {A = ℕ} (p a) 1 0) x (take i xs) in
    let right = sum_by-cons (λ a. cond {A = ℕ} (p a) 1 0) x (take j xs) in
    omega arith

-- it has fewer before it than there are
slot_below : {A : Type 0} (p : A → Bool) (xs : List A) (i : ℕ) (d : A) → i < length xs → p (get_or xs i d) ≡ true → count_by p (take i xs) < count_by p xs
slot_below p xs i d below e =
    let whole = take_all (length xs) xs (omega arith) in
    subst (λ ys. count_by p (take i xs) < count_by p ys) whole (slot_rises p xs i (length xs) d below (omega arith) e)

-- places of a kind that have as many before them are the same
slots_apart : {A : Type 0} (p : A → Bool) (xs : List A) (i j : ℕ) (d : A) → i < length xs → j < length xs → p (get_or xs i d) ≡ true → p (get_or xs j d) ≡ true → (i ≡ j → ⊥) → count_by p (take i xs) ≡ count_by p (take j xs) → ⊥
slots_apart p xs i j d below_i below_j at_i at_j apart same =
    go (ltb i j) refl (ltb j i) refl
  where
    go : (b : Bool) → ltb i j ≡ b → (c : Bool) → ltb j i ≡ c → ⊥
    go true e c f = let before = ltb-true i j e in let more = slot_rises p xs i j d before (omega arith) at_i in omega arith
    go false e true f = let before = ltb-true j i f in let more = slot_rises p xs j i d before (omega arith) at_j in omega arith
    go false e false f = let below = ltb-false i j e in let above = ltb-false j i f in apart (omega arith)

-- what is kept of a kind, at its place among that kind
kept_at : {A B : Type 0} (f : A → B) (p : A → Bool) (xs : List A) (k : ℕ) (d : A) (e : B) → k < length xs → p (get_or xs k d) ≡ true → get_or (map f (filter p xs)) (count_by p (take k xs)) e ≡ f (get_or xs k d)
kept_at f p [] k d e below h = absurd (omega arith)
kept_at f p (x ∷ xs) zero d e below h = rw h refl
kept_at f p (x ∷ xs) (suc k) d e below h = go (p x) refl (kept_at f p xs k d e (omega arith) h)
  where
    go : (b : Bool) → p x ≡ b → get_or (map f (filter p xs)) (count_by p (take k xs)) e ≡ f (get_or xs k d) → get_or (map f (filter p (x ∷ xs))) (count_by p (take (suc k) (x ∷ xs))) e ≡ f (get_or xs k d)
    go true t rest =
        let keeps : filter p (x ∷ xs) ≡ x ∷ filter p xs = rw t refl in
        ap (λ n. get_or (map f (filter p (x ∷ xs))) n e) (one_more p x (take k xs) t)
        ∙ ap (λ ys. get_or (map f ys) (suc (count_by p (take k xs))) e) keeps
        ∙ rest
    go false t rest =
        let keeps : filter p (x ∷ xs) ≡ filter p xs = rw t refl in
        ap (λ n. get_or (map f (filter p (x ∷ xs))) n e) (no_more p x (take k xs) t)
        ∙ ap (λ ys. get_or (map f ys) (count_by p (take k xs)) e) keeps
        ∙ rest

-- the array of no declaration
abbrev no_array : ArrayDecl
no_array = array_at [] 0

-- an array is one of its home's, among those of its sort
among_home : (d : Declared) (k : ℕ) (b : Bool) → is_strings_array d k ≡ b → is_among b (home_of d k) (array_at d.arrays k) ≡ true
among_home d k true e = and_from (eqb (home_of d k) (home_of d k)) (is_strings_array d k) (eq-eqb (home_of d k) (home_of d k) refl) e
among_home d k false e = and_from (eqb (home_of d k) (home_of d k)) (not (is_strings_array d k)) (eq-eqb (home_of d k) (home_of d k) refl) (ap not e)

-- its number there
index-is : (d : Declared) (a : ℕ) (b : Bool) → is_strings_array d a ≡ b → index_at_home d a ≡ count_by (is_among b (home_of d a)) (take a d.arrays)
index-is d a b e = ap (λ (c : Bool). count_by (is_among c (home_of d a)) (take a d.arrays)) e

-- there are more of its sort than its number
within-sort : {B : Type 0} (f : ArrayDecl → B) (d : Declared) (a : ℕ) (b : Bool) → is_strings_array d a ≡ b → a < length d.arrays → index_at_home d a < length (map f (filter (is_among b (home_of d a)) d.arrays))
within-sort f d a b e below =
    let room = slot_below (is_among b (home_of d a)) d.arrays a no_array below (among_home d a b e) in
    let long = length-map (filter (is_among b (home_of d a)) d.arrays) f in
    let count = length-filter (is_among b (home_of d a)) d.arrays in
    let at = index-is d a b e in
    omega arith

-- and it is the one of its number
at-sort : {B : Type 0} (f : ArrayDecl → B) (d : Declared) (a : ℕ) (b : Bool) (none : B) → is_strings_array d a ≡ b → a < length d.arrays → get_or (map f (filter (is_among b (home_of d a)) d.arrays)) (index_at_home d a) none ≡ f (array_at d.arrays a)
at-sort f d a b none e below =
    ap (λ n. get_or (map f (filter (is_among b (home_of d a)) d.arrays)) n none) (index-is d a b e)
    ∙ kept_at f (is_among b (home_of d a)) d.arrays a no_array none below (among_home d a b e)

-- a strings array's number at its home, and its length there

pub slot-within : (d : Declared) (a : ℕ) → is_strings_array d a ≡ true → a < length d.arrays → index_at_home d a < length (lengths_of d (home_of d a))
slot-within d a strings below = within-sort (λ (x : ArrayDecl). x.len) d a true strings below

pub slot-length : (d : Declared) (a : ℕ) → is_strings_array d a ≡ true → a < length d.arrays → get_or (lengths_of d (home_of d a)) (index_at_home d a) 0 ≡ length_at d.arrays a
slot-length d a strings below = at-sort (λ (x : ArrayDecl). x.len) d a true 0 strings below

-- a plain array's number at its home, and its kind and length there

pub plain-within : (d : Declared) (a : ℕ) → is_strings_array d a ≡ false → a < length d.arrays → index_at_home d a < length (plains_of d (home_of d a))
plain-within d a other below = within-sort plain_shape d a false other below

abbrev pub no_plain : PlainKind × ℕ
no_plain = (plain.Int, 0)

pub plain-shape : (d : Declared) (a : ℕ) → is_strings_array d a ≡ false → a < length d.arrays → get_or (plains_of d (home_of d a)) (index_at_home d a) no_plain ≡ (plain_kind (kind_of d a), length_at d.arrays a)
plain-shape d a other below = at-sort plain_shape d a false no_plain other below

-- two arrays of one home and one sort have two numbers there
pub slots-differ : (d : Declared) (a b : ℕ) (s : Bool) → is_strings_array d a ≡ s → is_strings_array d b ≡ s → a < length d.arrays → b < length d.arrays → a ≢ b → home_of d a ≡ home_of d b → index_at_home d a ≢ index_at_home d b
slots-differ d a b s at_a at_b below_a below_b apart home same =
    let p = is_among s (home_of d b) in
    slots_apart p d.arrays a b no_array below_a below_b (subst (λ h. is_among s h (array_at d.arrays a) ≡ true) home (among_home d a s at_a)) (among_home d b s at_b) apart
    (ap (λ h. count_by (is_among s h) (take a d.arrays)) (sym home) ∙ (sym (index-is d a s at_a) ∙ (same ∙ index-is d b s at_b)))

-- lengths of a home's arrays are within a store's limits

sum-entries : (arrays : List ArrayDecl) (h : ℕ) → sum (map (λ (a : ArrayDecl). a.len) (filter (is_among true h) arrays)) ≤ entries_of arrays h
sum-entries [] h = omega arith
sum-entries (a ∷ arrays) h =
    let right = sum_by-cons (entries_at h) a arrays in
    let again = sum-entries arrays h in
    go (is_among true h a) refl right again
  where
    rest : List ArrayDecl
    rest = filter (is_among true h) arrays

    go : (b : Bool) → is_among true h a ≡ b → entries_of (a ∷ arrays) h ≡ entries_at h a + entries_of arrays h → sum (map (λ (x : ArrayDecl). x.len) rest) ≤ entries_of arrays h
        → sum (map (λ (x : ArrayDecl). x.len) (cond b (a ∷ rest) rest)) ≤ entries_of (a ∷ arrays) h
    go true t right again =
        let home = and_parts (eqb a.home h) (is_strings a.kind) t in
        let here : entries_at h a ≡ a.len = ap (λ (b : Bool). cond b a.len 0) home.0 in
        let left = sum-cons a.len (map (λ (x : ArrayDecl). x.len) rest) in
        omega arith
    go false f right again = omega arith

pub small-lengths : (d : Declared) (h : ℕ) → IsDeclared d → IsSmall (lengths_of d h)
small-lengths d h declared =
    let all = sum-entries d.arrays h in
    let most = declared.entries h in
    let few = declared.arrays in
    let long = length-map (filter (is_among true h) d.arrays) (λ (a : ArrayDecl). a.len) in
    let count = length-filter (is_among true h) d.arrays in
    let within = count_by-le-length (is_among true h) d.arrays in
    record { arrays = omega arith; entries = omega arith }

-- plain arrays of a home have widths and lengths that they may have

abbrev IsSmallPlain : PlainKind × ℕ → Type 0
IsSmallPlain p = HasWidth p.0 × (p.1 ≤ most_cells)

plain-width : (k : Kind) → HasWidths k → HasWidth (plain_kind k)
plain-width kind.Str width = tt
plain-width (kind.Plain p) width = width

each-small : (arrays : List ArrayDecl) (h : ℕ) → AllByRecursion (λ (a : ArrayDecl). HasWidths a.kind) arrays → entries_of arrays h ≤ 8192 → AllByRecursion IsSmallPlain (map plain_shape (filter (is_among false h) arrays))
each-small [] h widths few = tt
each-small (a ∷ arrays) h widths few =
    let right = sum_by-cons (entries_at h) a arrays in
    go (is_among false h a) refl right (each-small arrays h widths.1 (omega arith))
  where
    rest : List ArrayDecl
    rest = filter (is_among false h) arrays

    go : (b : Bool) → is_among false h a ≡ b → entries_of (a ∷ arrays) h ≡ entries_at h a + entries_of arrays h → AllByRecursion IsSmallPlain (map plain_shape rest) → AllByRecursion IsSmallPlain (map plain_shape (cond b (a ∷ rest) rest))
    go true t right again =
        let home = and_parts (eqb a.home h) (not (is_strings a.kind)) t in
        let here : entries_at h a ≡ a.len = ap (λ (b : Bool). cond b a.len 0) home.0 in
        ((plain-width a.kind widths.0, omega arith), again)
    go false f right again = again

pub small-plains : (d : Declared) (h : ℕ) → IsDeclared d → ArePlains (plains_of d h)
small-plains d h declared = All-from_recursion IsSmallPlain (plains_of d h) (each-small d.arrays h declared.widths (declared.entries h))

-- an array has no more entries than its home has

one-entries : (arrays : List ArrayDecl) (k : ℕ) (x : ArrayDecl) → k < length arrays → (get_or arrays k x).len ≤ entries_of arrays (get_or arrays k x).home
one-entries [] k x below = absurd (omega arith)
one-entries (a ∷ arrays) zero x below =
    let right = sum_by-cons (entries_at a.home) a arrays in
    let here : entries_at a.home a ≡ a.len = ap (λ (b : Bool). cond b a.len 0) (eq-eqb a.home a.home refl) in
    omega arith
one-entries (a ∷ arrays) (suc k) x below =
    let right = sum_by-cons (entries_at (get_or arrays k x).home) a arrays in
    let again = one-entries arrays k x (omega arith) in
    omega arith

pub length-few : (d : Declared) (a : ℕ) → IsDeclared d → a < length d.arrays → length_at d.arrays a ≤ 8192
length-few d a declared below =
    let one = one-entries d.arrays a no_array below in
    let most = declared.entries (home_of d a) in
    omega arith
