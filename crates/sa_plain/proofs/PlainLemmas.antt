-- What a put leaves of a plain array, and what a new one is.
use Rattle.std.proofs.Common.{◌≡◌, ◌≤◌, ◌<◌, ◌+◌, ◌-◌, ◌*◌, ◌^◌, ◌∙◌, refl, sym, ap, ap₂, subst, ℕ, zero, suc, ℤ, pos, negsuc, Bool, true, List, [], ◌∷◌, ◌++◌, ◌&&◌, ◌==◌, length, map, take, get_or, nat_lt, arith, All, SFits, w8, w32, w64, Fits}
use Rattle.std.proofs.Math.ListN.{replicate, set}
use Rattle.std.specs.List.{list_all}
use Rattle.std.proofs.lemmas.List.{map-set, get_or-map, take_more, map_more, length-take-le, length-map, length-set, length-replicate}
use Rattle.std.proofs.lemmas.List.Elements.{All-set, All-head, All-tail, All-replicate, All-append, All-from_get_or}
use Rattle.std.proofs.lemmas.List.Sums.{AllPass-from_list_all, list_all-from_AllPass}
use Rattle.std.proofs.lemmas.Bool.{and_from, eq-eqb, lt-ltb}
use Rattle.std.proofs.lemmas.Bool.Decides.{nat_tests}
use Rattle.sa_base.specs.Items.{Item, MissingItem, BytesItem, UnitsItem}
use Rattle.sa_plain.specs.declared.kind.PlainKind.{PlainKind}
use Rattle.sa_plain.specs.declared.kind.PlainKind.TheVariants as kinds
use Rattle.sa_plain.specs.Grids.{rows}
use Rattle.sa_plain.specs.Plains.{PlainValue, IsPlain, HasWidth, most_cells, is_of_kind, is_i64, is_unit, padded, zero_item, opening_plain, with_item, item_padded, put_item, put_items, items_at, width_of}
use Rattle.sa_plain.proofs.GridLemmas.{rows-replicate, length-padded}

pub map-replicate : {X Y : Type 0} (f : X → Y) (n : ℕ) (x : X) → map f (replicate n x) ≡ replicate n (f x)
map-replicate f zero x = refl
map-replicate f (suc n) x = ap (λ ys. f x ∷ ys) (map-replicate f n x)

-- an array stays one where an item of its kind is put
pub kept : (p : PlainValue) (k : ℕ) (item : Item) → IsPlain p → is_of_kind p.kind item ≡ true → IsPlain (with_item p k item)
kept p k item h is = record {
  width = h.width;
  few = rw (length-set p.items k item) h.few;
  all = list_all-from_AllPass (is_of_kind p.kind) (set p.items k item) (All-set (λ i. is_of_kind p.kind i ≡ true) p.items k item is (AllPass-from_list_all (is_of_kind p.kind) p.items h.all));
}

pub after_put : (p q : PlainValue) (k : ℕ) (item : Item) → IsPlain p → is_of_kind p.kind (item_padded p.kind item) ≡ true → q ≡ put_item p k item → IsPlain q
after_put p q k item h is same = subst IsPlain (sym same) (kept p k (item_padded p.kind item) h is)

-- an array of rows after the put of one
pub grid_put : (kind : ℕ → PlainKind) (item : List ℕ → Item) → ((w : ℕ) (to : List ℕ) → item_padded (kind w) (item to) ≡ item (padded w to)) →
    (p : PlainValue) (grid new : ℕ × List (List ℕ)) (k : ℕ) (to : List ℕ) → record { kind = kind grid.0; items = map item grid.1 } ≡ p →
    new.0 ≡ grid.0 → new.1 ≡ set grid.1 k (padded grid.0 to) → record { kind = kind new.0; items = map item new.1 } ≡ put_item p k (item to)
grid_put kind item pads p grid new k to are width is =
    let of : ℕ → List Item → PlainValue = λ w items. record { kind = kind w; items = items } in
    ap₂ (λ w rs. of w (map item rs)) width is
    ∙ ap (of grid.0) (map-set item grid.1 k (padded grid.0 to) ∙ ap (set (map item grid.1) k) (sym (pads grid.0 to)))
    ∙ ap (λ q. put_item q k (item to)) are

-- an array of single cells after the put of one
pub cell_put : {X : Type 0} (kind : PlainKind) (item : X → Item) → ((x : X) → item_padded kind (item x) ≡ item x) →
    (p : PlainValue) (cells : List X) (k : ℕ) (to written : X) → record { kind = kind; items = map item cells } ≡ p → written ≡ to →
    record { kind = kind; items = map item (set cells k written) } ≡ put_item p k (item to)
cell_put kind item pads p cells k to written are same =
    let of : List Item → PlainValue = λ items. record { kind = kind; items = items } in
    ap of (map-set item cells k written ∙ ap (λ x. set (map item cells) k (item x)) same ∙ ap (set (map item cells) k) (sym (pads to)))
    ∙ ap (λ q. put_item q k (item to)) are

-- a number is an i64
pub i64_is : (n : ℤ) → SFits w64 n → is_i64 n ≡ true
i64_is (pos n) fits = let small = fits.sfits in grind (arith, nat_tests)
i64_is (negsuc n) fits = let small = fits.sfits in grind (arith, nat_tests)

-- a row with zeros behind it is of the width, and each cell passes the test that 0 does
row_is : (test : ℕ → Bool) (w : ℕ) (to : List ℕ) → length to ≤ w → test 0 ≡ true → ((k : ℕ) → k < length to → test (get_or to k 0) ≡ true) → list_all test (padded w to) ≡ true
row_is test w to fits zeros each =
    list_all-from_AllPass test (padded w to)
    (All-append (λ x. test x ≡ true) to (replicate (w - length to) 0) (All-from_get_or (λ x. test x ≡ true) to 0 each) (All-replicate (λ x. test x ≡ true) (w - length to) 0 zeros))

pub bytes_fit : (w : ℕ) (to : List ℕ) → length to ≤ w → ((k : ℕ) → Fits w8 (get_or to k 0)) → is_of_kind (kinds.Bytes w) (BytesItem (padded w to)) ≡ true
bytes_fit w to fits each =
    and_from (length (padded w to) == w) (list_all (λ byte. nat_lt byte 256) (padded w to)) (eq-eqb (length (padded w to)) w (length-padded to w 0 fits))
    (row_is (λ byte. nat_lt byte 256) w to fits refl (λ k below. let small = (each k).fits in lt-ltb (get_or to k 0) 256 (omega arith)))

pub units_fit : (w : ℕ) (to : List ℕ) → length to ≤ w → ((k : ℕ) → Fits w32 (get_or to k 0)) → is_of_kind (kinds.Fixed w) (UnitsItem (padded w to)) ≡ true
units_fit w to fits each =
    and_from (length (padded w to) == w) (list_all is_unit (padded w to)) (eq-eqb (length (padded w to)) w (length-padded to w 0 fits))
    (row_is is_unit w to fits refl (λ k below. let small = (each k).fits in lt-ltb (get_or to k 0) (2 ^ 32) (omega arith)))

-- a new array is one
zeros_are : (test : ℕ → Bool) (w : ℕ) → test 0 ≡ true → ((length {A = ℕ} (replicate w 0) == w) && list_all test (replicate w 0)) ≡ true
zeros_are test w zeros =
    and_from (length {A = ℕ} (replicate w 0) == w) (list_all test (replicate w 0)) (eq-eqb (length {A = ℕ} (replicate w 0)) w (length-replicate w 0))
    (list_all-from_AllPass test (replicate w 0) (All-replicate (λ x. test x ≡ true) w 0 zeros))

zero_is : (kind : PlainKind) → is_of_kind kind (zero_item kind) ≡ true
zero_is kinds.Int = refl
zero_is kinds.Bool = refl
zero_is (kinds.Bytes w) = zeros_are (λ byte. nat_lt byte 256) w refl
zero_is (kinds.Fixed w) = zeros_are is_unit w refl

pub opened : (kind : PlainKind) (n : ℕ) → HasWidth kind → n ≤ most_cells → IsPlain (opening_plain kind n)
opened kind n wide few = record {
  width = wide;
  few = rw (length-replicate n (zero_item kind)) few;
  all = list_all-from_AllPass (is_of_kind kind) (replicate n (zero_item kind)) (All-replicate (λ i. is_of_kind kind i ≡ true) n (zero_item kind) (zero_is kind));
}

pub opened_as : (kind : PlainKind) (n : ℕ) (p : PlainValue) → HasWidth kind → n ≤ most_cells → p ≡ opening_plain kind n → IsPlain p
opened_as kind n p wide few same = subst IsPlain (sym same) (opened kind n wide few)

-- new rows are those of a new array
pub opening_grid : (kind : ℕ → PlainKind) (item : List ℕ → Item) (n w : ℕ) (grid : ℕ × List (List ℕ)) (cells : List ℕ) → grid.0 ≡ w → grid.1 ≡ rows n w cells → cells ≡ replicate (n * w) 0 →
    let of : ℕ → List Item → PlainValue = λ w items. record { kind = kind w; items = items } in of grid.0 (map item grid.1) ≡ of w (replicate n (item (replicate w 0)))
opening_grid kind item n w grid cells width is zeros =
    let of : ℕ → List Item → PlainValue = λ w items. record { kind = kind w; items = items } in
    ap₂ (λ v rs. of v (map item rs)) width (is ∙ ap (rows n w) zeros ∙ rows-replicate n w 0) ∙ ap (of w) (map-replicate item n (replicate w 0))

-- new cells are those of a new array
pub opening_list : {X : Type 0} (kind : PlainKind) (item : X → Item) (n : ℕ) (cells : List X) (zero_cell : X) → cells ≡ replicate n zero_cell → item zero_cell ≡ zero_item kind →
    let of : List Item → PlainValue = λ items. record { kind = kind; items = items } in of (map item cells) ≡ opening_plain kind n
opening_list kind item n cells zero_cell are is =
    let of : List Item → PlainValue = λ items. record { kind = kind; items = items } in
    ap (λ xs. of (map item xs)) are ∙ ap of (map-replicate item n zero_cell ∙ ap (replicate n) is)

-- puts keep the kind and the number of items
pub kind-put_items : (p : PlainValue) (places : List ℕ) (items : List Item) → (put_items p places items).kind ≡ p.kind
kind-put_items p [] items = refl
kind-put_items p (k ∷ ks) [] = refl
kind-put_items p (k ∷ ks) (i ∷ is) = kind-put_items (put_item p k i) ks is

pub length-put_items : (p : PlainValue) (places : List ℕ) (items : List Item) → length (put_items p places items).items ≡ length p.items
length-put_items p [] items = refl
length-put_items p (k ∷ ks) [] = refl
length-put_items p (k ∷ ks) (i ∷ is) = length-put_items (put_item p k i) ks is ∙ length-set p.items k (item_padded p.kind i)

-- one more put
pub put_items-push : (p : PlainValue) (ks : List ℕ) (is : List Item) (k : ℕ) (i : Item) → length ks ≡ length is → put_items p (ks ++ k ∷ []) (is ++ i ∷ []) ≡ put_item (put_items p ks is) k i
put_items-push p [] [] k i same = refl
put_items-push p [] (j ∷ js) k i same = absurd (omega arith)
put_items-push p (l ∷ ls) [] k i same = absurd (omega arith)
put_items-push p (l ∷ ls) (j ∷ js) k i same = put_items-push (put_item p l j) ls js k i (omega arith)

pub put_more : {X : Type 0} (item : X → Item) (p : PlainValue) (places : List ℕ) (xs : List X) (k : ℕ) (d : ℕ) (e : X) → length places ≡ length xs → k < length places →
    put_items p (take (k + 1) places) (map item (take (k + 1) xs)) ≡ put_item (put_items p (take k places) (map item (take k xs))) (get_or places k d) (item (get_or xs k e))
put_more item p places xs k d e same below =
    ap₂ (λ ks is. put_items p ks is) (take_more places k d below) (map_more item xs k e (omega arith))
    ∙ put_items-push p (take k places) (map item (take k xs)) (get_or places k d) (item (get_or xs k e))
    (length-take-le k places (omega arith) ∙ sym (length-map (take k xs) item ∙ length-take-le k xs (omega arith)))

-- what holds of the kind, and of a place, holds after the puts
pub kind_after : (test : PlainKind → Bool) (p q : PlainValue) (ks : List ℕ) (is : List Item) → q ≡ put_items p ks is → test p.kind ≡ true → test q.kind ≡ true
kind_after test p q ks is same holds = ap (λ r. test r.kind) same ∙ ap test (kind-put_items p ks is) ∙ holds

pub there_after : (p q : PlainValue) (ks : List ℕ) (is : List Item) (places : List ℕ) (k d : ℕ) → q ≡ put_items p ks is → All (λ at. at < length p.items) places → k < length places → get_or places k d < length q.items
there_after p q ks is places k d same below h =
    let there = below k d h in
    let kept : length q.items ≡ length p.items = ap (λ r. length r.items) same ∙ length-put_items p ks is in
    omega arith

pub fits_after : (p q : PlainValue) (ks : List ℕ) (is : List Item) (row : List ℕ) → q ≡ put_items p ks is → length row ≤ width_of p.kind → length row ≤ width_of q.kind
fits_after p q ks is row same fits = let kept : width_of q.kind ≡ width_of p.kind = ap (λ r. width_of r.kind) same ∙ ap width_of (kind-put_items p ks is) in omega arith

-- the items at places are made of the cells there
gathered : {X : Type 0} (item : X → Item) (cells : List X) (e : X) (places : List ℕ) → All (λ k. k < length cells) places → map item (map (λ k. get_or cells k e) places) ≡ map (λ k. get_or (map item cells) k MissingItem) places
gathered item cells e [] below = refl
gathered item cells e (k ∷ ks) below =
    ap₂ (λ i is. i ∷ is) (sym (get_or-map item cells k e MissingItem (All-head (λ k. k < length cells) k ks below)))
    (gathered item cells e ks (All-tail (λ k. k < length cells) k ks below))

pub items_found : {X : Type 0} (kind : PlainKind) (item : X → Item) (cells found : List X) (e : X) (places : List ℕ) (p : PlainValue) → record { kind = kind; items = map item cells } ≡ p →
    All (λ k. k < length p.items) places → found ≡ map (λ k. get_or cells k e) places → map item found ≡ items_at p places
items_found kind item cells found e places p are below is =
    let same : length p.items ≡ length cells = sym (ap (λ q. length q.items) are) ∙ length-map cells item in
    ap (map item) is ∙ gathered item cells e places (λ k d h. let there = below k d h in omega arith) ∙ ap (λ q. items_at q places) are
