-- What was read, told by descriptor: it has the columns and the weight of what was read by operand.
use Rattle.std.proofs.Common.{◌≡◌, ℕ, zero, suc, ◌+◌, ◌*◌, ◌<◌, ◌≤◌, eqb, nat_lt, Bool, true, false, cond, List, [], ◌∷◌, ◌++◌, length, map, get_or, take, drop, refl, sym, ap, ◌∙◌, arith, inl, inr}
use Rattle.std.specs.List.{AllByRecursion, list_all, list_any, filter, count_by, sum_by, zip, range_with_len}
use Rattle.std.proofs.lemmas.Bool.{and_parts, or_cases, or_left, or_right, eqb-true, eqb-false, eq-eqb, ne_eqb, false≢true, ltb-true}
use Rattle.std.proofs.lemmas.List.{length-map, take_at, drop_at}
use Rattle.std.proofs.lemmas.List.FromFn.{length-map-range_with_len}
use Rattle.std.proofs.lemmas.List.Sums.{sum_by-cons, sum_by-append}
use Rattle.std.proofs.lemmas.Slice.Zip.{length-zip, seconds-zip}
use Rattle.sa_base.specs.Items.{Item, IntegerItem, FlagItem, BytesItem, UnitsItem}
use Rattle.sa_base.specs.Deeds.{Place, Part, part_at}
use Rattle.sa_text.specs.Values.{item_of, value_weight}
use Rattle.sa_text.specs.declared.value.Value.{Value}
use Rattle.sa_text.specs.declared.value.Value.TheVariants.{Missing, Of}
use Rattle.sa_plain.specs.Items.{count_of, items_of, items_weight, item_weight}
use Rattle.sa_plain.specs.declared.items.Items.{Items}
use Rattle.sa_plain.specs.declared.items.Items.TheVariants.{Values, Ints, Flags, Bytes, Units}
use Rattle.sa_view.specs.Views.{places_of, place_at, fits}
use Rattle.sa_view.specs.declared.view.View.{View}
use Rattle.sa_call.specs.declared.call.Operand.{Operand}
use Rattle.sa_call.specs.declared.call.Operand.TheVariants as operand
use Rattle.sa_call.specs.declared.decls.ArrayDecl.{ArrayDecl}
use Rattle.sa_call.specs.Columns.{columns_read}
use Rattle.sa_call.specs.Decls.{Declared, IsDeclared, array_at, home_of, length_at}
use Rattle.sa_call.specs.Parts.{literal_weight, behind, columns_of}
use Rattle.sa_call.specs.Told.{items_told, places_in, place_in, operand_is_at, view_counts}
use Rattle.sa_call.specs.Valid.{is_operand_of, is_view_of}

-- sums over lists
pub sum_by-map : {A B : Type 0} (f : B → ℕ) (g : A → B) (xs : List A) → sum_by f (map g xs) ≡ sum_by (λ x. f (g x)) xs
sum_by-map f g [] = refl
sum_by-map f g (x ∷ xs) = let left = sum_by-cons f (g x) (map g xs) in let right = sum_by-cons (λ x. f (g x)) x xs in let rest = sum_by-map f g xs in omega arith

sum-zeros : {A : Type 0} (xs : List A) → sum_by (λ x. 0) xs ≡ 0
sum-zeros [] = refl
sum-zeros (x ∷ xs) = let e = sum_by-cons (λ y. 0) x xs in let rest = sum-zeros xs in omega arith

-- one more for each that passes
sum-more : (p : ℕ → Bool) (n : ℕ) (f : ℕ → ℕ) (xs : List ℕ) → sum_by (λ d. cond (p d) n 0 + f d) xs ≡ count_by p xs * n + sum_by f xs
sum-more p n f [] = omega arith
sum-more p n f (x ∷ xs) =
    let left = sum_by-cons (λ d. cond (p d) n 0 + f d) x xs in
    let count = sum_by-cons (λ d. cond (p d) 1 0) x xs in
    let right = sum_by-cons f x xs in
    go (p x) left count right (sum-more p n f xs)
  where
    go : (b : Bool) → sum_by (λ d. cond (p d) n 0 + f d) (x ∷ xs) ≡ cond b n 0 + f x + sum_by (λ d. cond (p d) n 0 + f d) xs
        → count_by p (x ∷ xs) ≡ cond b 1 0 + count_by p xs → sum_by f (x ∷ xs) ≡ f x + sum_by f xs
        → sum_by (λ d. cond (p d) n 0 + f d) xs ≡ count_by p xs * n + sum_by f xs
        → sum_by (λ d. cond (p d) n 0 + f d) (x ∷ xs) ≡ count_by p (x ∷ xs) * n + sum_by f (x ∷ xs)
    go true left count right rest =
        let product : count_by p (x ∷ xs) * n ≡ (1 + count_by p xs) * n = ap (λ m. m * n) count in
        omega arith
    go false left count right rest =
        let product : count_by p (x ∷ xs) * n ≡ (0 + count_by p xs) * n = ap (λ m. m * n) count in
        omega arith

-- 1, where it is so
abbrev one_if : Bool → ℕ
one_if b = cond b 1 0

above : (a d : ℕ) → a ≤ d → (a ≡ d → ⊥) → a + 1 ≤ d
above a d from apart = omega arith

-- a number of a range is there once, and so among those that pass, where it passes
count-past : (d a n : ℕ) → d < a → count_by (eqb d) (range_with_len a n) ≡ 0
count-past d a zero past = refl
count-past d a (suc n) past =
    let cons = sum_by-cons (λ x. cond (eqb d x) 1 0) a (range_with_len (a + 1) n) in
    let no : one_if (eqb d a) ≡ 0 = rw (ne_eqb d a (λ same. omega arith)) refl in
    let rest = count-past d (a + 1) n (omega arith) in
    omega arith

pub count-once : (d a n : ℕ) → a ≤ d → d < a + n → count_by (eqb d) (range_with_len a n) ≡ 1
count-once d a zero from below = absurd (omega arith)
count-once d a (suc n) from below = go (eqb d a) refl (sum_by-cons (λ x. cond (eqb d x) 1 0) a (range_with_len (a + 1) n)) (λ later. count-once d (a + 1) n later (omega arith))
  where
    go : (b : Bool) → eqb d a ≡ b → count_by (eqb d) (range_with_len a (suc n)) ≡ cond (eqb d a) 1 0 + count_by (eqb d) (range_with_len (a + 1) n)
        → (a + 1 ≤ d → count_by (eqb d) (range_with_len (a + 1) n) ≡ 1) → count_by (eqb d) (range_with_len a (suc n)) ≡ 1
    go true e cons rest =
        let same = eqb-true d a e in
        let none = count-past d (a + 1) n (omega arith) in
        let here : one_if (eqb d a) ≡ 1 = rw e refl in
        omega arith
    go false e cons rest =
        let apart = eqb-false d a e in
        let further : a + 1 ≤ d = above a d from (λ same. apart (sym same)) in
        let later = rest further in
        let no : one_if (eqb d a) ≡ 0 = rw e refl in
        omega arith

count-filter : (p : ℕ → Bool) (d : ℕ) (xs : List ℕ) → p d ≡ true → count_by (eqb d) (filter p xs) ≡ count_by (eqb d) xs
count-filter p d [] passes = refl
count-filter p d (x ∷ xs) passes =
    go (p x) refl (sum_by-cons (λ y. cond (eqb d y) 1 0) x xs) (sum_by-cons (λ y. cond (eqb d y) 1 0) x (filter p xs)) (count-filter p d xs passes)
  where
    go : (b : Bool) → p x ≡ b → count_by (eqb d) (x ∷ xs) ≡ cond (eqb d x) 1 0 + count_by (eqb d) xs
        → count_by (eqb d) (x ∷ filter p xs) ≡ cond (eqb d x) 1 0 + count_by (eqb d) (filter p xs)
        → count_by (eqb d) (filter p xs) ≡ count_by (eqb d) xs → count_by (eqb d) (filter p (x ∷ xs)) ≡ count_by (eqb d) (x ∷ xs)
    go true e all kept rest = rw e (omega arith)
    go false e all kept rest =
        let apart : eqb d x ≡ false = ne_eqb d x (λ same. false≢true (sym e ∙ ap p (sym same) ∙ passes)) in
        let no : one_if (eqb d x) ≡ 0 = rw apart refl in
        rw e (omega arith)

pub once-among : (p : ℕ → Bool) (d n : ℕ) → d < n → p d ≡ true → count_by (eqb d) (filter p (range_with_len 0 n)) ≡ 1
once-among p d n below passes = count-filter p d (range_with_len 0 n) passes ∙ count-once d 0 n (omega arith) (omega arith)

-- the part of a descriptor that is there
pub part-there : (f : ℕ → Part) (ds : List ℕ) (d : ℕ) → count_by (eqb d) ds ≡ 1 → part_at (map (λ k. (k, f k)) ds) d ≡ f d
part-there f [] d once = absurd (omega arith)
part-there f (k ∷ ds) d once = go (eqb k d) refl (sum_by-cons (λ y. cond (eqb d y) 1 0) k ds) (part-there f ds d)
  where
    go : (b : Bool) → eqb k d ≡ b → count_by (eqb d) (k ∷ ds) ≡ cond (eqb d k) 1 0 + count_by (eqb d) ds
        → (count_by (eqb d) ds ≡ 1 → part_at (map (λ k. (k, f k)) ds) d ≡ f d) → part_at (map (λ k. (k, f k)) (k ∷ ds)) d ≡ f d
    go true e cons rest = rw e (ap f (eqb-true k d e))
    go false e cons rest =
        let apart : eqb d k ≡ false = ne_eqb d k (λ same. eqb-false k d e (sym same)) in
        let no : one_if (eqb d k) ≡ 0 = rw apart refl in
        rw e (rest (omega arith))

-- the items of a view beside their places
pub length-places : (decls : Declared) (v : View) → length (places_in decls v) ≡ v.count
length-places decls v = length-map (places_of v) (place_in decls v) ∙ length-map-range_with_len (place_at v) 0 v.count

pub length-items : (items : Items) → length (items_of items) ≡ count_of items
length-items (Values vs) = length-map vs item_of
length-items (Ints ns) = length-map ns (λ n. IntegerItem n)
length-items (Flags bs) = length-map bs (λ b. FlagItem b)
length-items (Bytes rows) = length-map rows (λ bytes. BytesItem bytes)
length-items (Units rows) = length-map rows (λ units. UnitsItem units)

abbrev beside : Declared → View → Items → List (Place × Item)
beside decls v items = zip (places_in decls v) (items_of items)

pub length-beside : (decls : Declared) (v : View) (items : Items) → count_of items ≡ v.count → length (beside decls v items) ≡ v.count
length-beside decls v items same =
    let both = length-zip (places_in decls v) (items_of items) in
    let places = length-places decls v in
    let many = length-items items in
    omega arith

items-beside : (decls : Declared) (v : View) (items : Items) → count_of items ≡ v.count → map (λ (p : Place × Item). p.1) (beside decls v items) ≡ items_of items
items-beside decls v items same =
    let places = length-places decls v in
    let many = length-items items in
    seconds-zip (places_in decls v) (items_of items) (omega arith)

weight-item : (v : Value) → item_weight (item_of v) ≡ value_weight v
weight-item Missing = refl
weight-item (Of text) = refl

weight-alike : {A : Type 0} (item : A → Item) → ((x : A) → item_weight (item x) ≡ 16) → (xs : List A) → sum_by item_weight (map item xs) ≡ 16 * length xs
weight-alike item each [] = omega arith
weight-alike item each (x ∷ xs) = let cons = sum_by-cons item_weight (item x) (map item xs) in let here = each x in let rest = weight-alike item each xs in omega arith

pub weight-items : (items : Items) → sum_by item_weight (items_of items) ≡ items_weight items
weight-items (Values vs) = sum_by-map item_weight item_of vs ∙ ap (λ (f : Value → ℕ). sum_by f vs) (λ i v. weight-item v i)
weight-items (Ints ns) = weight-alike (λ n. IntegerItem n) (λ n. refl) ns
weight-items (Flags bs) = weight-alike (λ b. FlagItem b) (λ b. refl) bs
weight-items (Bytes rows) = sum_by-map item_weight (λ bytes. BytesItem bytes) rows
weight-items (Units rows) = sum_by-map item_weight (λ units. UnitsItem units) rows

weight-beside : (decls : Declared) (v : View) (items : Items) → count_of items ≡ v.count → sum_by (λ (p : Place × Item). item_weight p.1) (beside decls v items) ≡ items_weight items
weight-beside decls v items same =
    sym (sum_by-map item_weight (λ (p : Place × Item). p.1) (beside decls v items)) ∙ ap (sum_by item_weight) (items-beside decls v items same) ∙ weight-items items

-- what is left of a descriptor's items behind those of a view that may be on it
behind-left : {A : Type 0} (b : Bool) (n : ℕ) (front rest found : List A) → length front ≡ n → found ≡ cond b front [] ++ rest → cond b (drop n found) found ≡ rest
behind-left true n front rest found long e = ap (drop n) e ∙ drop_at front rest n long
behind-left false n front rest found long e = e

-- the columns, where the items of each descriptor with a view are found
pub columns-told : (decls : Declared) (found : ℕ → List (Place × Item)) (os : List Operand) (lists : List Items) → map count_of lists ≡ view_counts os
    → ((d : ℕ) → list_any (operand_is_at decls d) os ≡ true → found d ≡ items_told decls d os lists) → columns_of decls found os ≡ map items_of (columns_read os lists)
columns-told decls found [] lists same told = refl
columns-told decls found (operand.Literal items ∷ os) lists same told = ap (λ cs. items_of items ∷ cs) (columns-told decls found os lists same told)
columns-told decls found (operand.View v ∷ os) [] same told = cc
columns-told decls found (operand.View v ∷ os) (items ∷ lists) same told =
    let h = home_of decls v.array in
    let count : count_of items ≡ v.count = cc in
    let counts : map count_of lists ≡ view_counts os = cc in
    let long = length-beside decls v items count in
    let self = eq-eqb h h refl in
    let at_home : found h ≡ beside decls v items ++ items_told decls h os lists =
    told h (or_left (eqb h h) (list_any (operand_is_at decls h) os) self) ∙ ap (λ b. cond b (beside decls v items) [] ++ items_told decls h os lists) self in
    let here : map (λ (p : Place × Item). p.1) (take v.count (found h)) ≡ items_of items =
    ap (λ ps. map (λ (p : Place × Item). p.1) (take v.count ps)) at_home
    ∙ ap (λ ps. map (λ (p : Place × Item). p.1) ps) (take_at (beside decls v items) (items_told decls h os lists) v.count long)
    ∙ items-beside decls v items count in
    let left : (d : ℕ) → list_any (operand_is_at decls d) os ≡ true → behind h v.count found d ≡ items_told decls d os lists =
    λ d any. behind-left (eqb h d) v.count (beside decls v items) (items_told decls d os lists) (found d) long (told d (or_right (eqb h d) (list_any (operand_is_at decls d) os) any)) in
    let rest = columns-told decls (behind h v.count found) os lists counts left in
    ap (λ c. c ∷ columns_of decls (behind h v.count found) os) here ∙ ap (λ cs. items_of items ∷ cs) rest

-- the weight of the items that were read of a descriptor
abbrev told_weight : Declared → List Operand → List Items → ℕ → ℕ
told_weight decls os lists d = sum_by (λ (p : Place × Item). item_weight p.1) (items_told decls d os lists)

told_weight-view : (decls : Declared) (v : View) (items : Items) (os : List Operand) (lists : List Items) (d : ℕ) → count_of items ≡ v.count
    → told_weight decls (operand.View v ∷ os) (items ∷ lists) d ≡ cond (eqb (home_of decls v.array) d) (items_weight items) 0 + told_weight decls os lists d
told_weight-view decls v items os lists d same = go (eqb (home_of decls v.array) d)
  where
    go : (b : Bool) → sum_by (λ (p : Place × Item). item_weight p.1) (cond b (beside decls v items) [] ++ items_told decls d os lists) ≡ cond b (items_weight items) 0 + told_weight decls os lists d
    go true =
        let both = sum_by-append (λ (p : Place × Item). item_weight p.1) (beside decls v items) (items_told decls d os lists) in
        let one = weight-beside decls v items same in
        omega arith
    go false = omega arith

-- the weight of all, where each descriptor with a view is there once
pub weight-told : (decls : Declared) (ds : List ℕ) (os : List Operand) (lists : List Items) → map count_of lists ≡ view_counts os
    → ((d : ℕ) → list_any (operand_is_at decls d) os ≡ true → count_by (eqb d) ds ≡ 1)
    → sum_by (told_weight decls os lists) ds + sum_by literal_weight os ≡ sum_by items_weight (columns_read os lists)
weight-told decls ds [] lists same once = let none = sum-zeros ds in omega arith
weight-told decls ds (operand.Literal items ∷ os) lists same once =
    let left = sum_by-cons literal_weight (operand.Literal items) os in
    let right = sum_by-cons items_weight items (columns_read os lists) in
    let rest = weight-told decls ds os lists same once in
    omega arith
weight-told decls ds (operand.View v ∷ os) [] same once = cc
weight-told decls ds (operand.View v ∷ os) (items ∷ lists) same once =
    let h = home_of decls v.array in
    let count : count_of items ≡ v.count = cc in
    let counts : map count_of lists ≡ view_counts os = cc in
    let left = sum_by-cons literal_weight (operand.View v) os in
    let right = sum_by-cons items_weight items (columns_read os lists) in
    let rest = weight-told decls ds os lists counts (λ d any. once d (or_right (eqb h d) (list_any (operand_is_at decls d) os) any)) in
    let one : count_by (eqb h) ds ≡ 1 = once h (or_left (eqb h h) (list_any (operand_is_at decls h) os) (eq-eqb h h refl)) in
    let parts : sum_by (told_weight decls (operand.View v ∷ os) (items ∷ lists)) ds ≡ sum_by (λ d. cond (eqb h d) (items_weight items) 0 + told_weight decls os lists d) ds =
    ap (λ (f : ℕ → ℕ). sum_by f ds) (λ i d. told_weight-view decls v items os lists d count i) in
    let more = sum-more (eqb h) (items_weight items) (told_weight decls os lists) ds in
    let product : count_by (eqb h) ds * items_weight items ≡ 1 * items_weight items = ap (λ n. n * items_weight items) one in
    omega arith

-- the home of a view that is one of the declarations is declared
home-below : (n : ℕ) (arrays : List ArrayDecl) (k : ℕ) (d : ArrayDecl) → AllByRecursion (λ (a : ArrayDecl). a.home < n) arrays → k < length arrays → (get_or arrays k d).home < n
home-below n [] k d homes below = absurd (omega arith)
home-below n (a ∷ as') zero d homes below = homes.0
home-below n (a ∷ as') (suc k) d homes below = home-below n as' k d homes.1 (omega arith)

pub any-declared : (decls : Declared) (os : List Operand) (d : ℕ) → IsDeclared decls → list_all (is_operand_of decls) os ≡ true → list_any (operand_is_at decls d) os ≡ true → d < length decls.descrs
any-declared decls [] d declared views any = absurd (false≢true any)
any-declared decls (operand.Literal items ∷ os) d declared views any = any-declared decls os d declared views any
any-declared decls (operand.View v ∷ os) d declared views any =
    let parts = and_parts (is_view_of decls v) (list_all (is_operand_of decls) os) views in
    let view = and_parts (nat_lt v.array (length decls.arrays)) (fits (length_at decls.arrays v.array) v) parts.0 in
    elim (or_cases (eqb (home_of decls v.array) d) (list_any (operand_is_at decls d) os) any) [
      | inl here ↦
          let same = eqb-true (home_of decls v.array) d here in
          let below = home-below (length decls.descrs) decls.arrays v.array (array_at [] 0) declared.homes (ltb-true v.array (length decls.arrays) view.0) in
          omega arith
      | inr later ↦ any-declared decls os d declared parts.1 later
    ]
