-- What a call takes of what a descriptor holds is found there once more.
use Rattle.std.proofs.Common.{◌≡◌, ◌<◌, ◌+◌, ℕ, Bool, true, false, ◌&&◌, cond, inl, inr, nat_eq, List, [], ◌∷◌, ◌++◌, length, map, refl, sym, ap, ◌∙◌, subst, arith}
use Rattle.std.specs.List.{list_all, sum_by, zip}
use Rattle.std.proofs.lemmas.Bool.{and_parts, cases_Bool, eqb-true}
use Rattle.std.proofs.lemmas.List.{map-append}
use Rattle.std.proofs.lemmas.Simd.{map-map}
use Rattle.sa_base.specs.Items.{Item}
use Rattle.sa_base.specs.Deeds.{Place, Part, Read, Weighed, Counted, Pictured, PictureWeighed}
use Rattle.sa_text.specs.Values.{item_of}
use Rattle.sa_text.specs.declared.value.Value.{Value}
use Rattle.sa_alloc.specs.Layouts.{first_entry, value_at}
use Rattle.sa_view.specs.Views.{places_of}
use Rattle.sa_view.specs.declared.view.View.{View}
use Rattle.sa_plain.specs.Items.{count_of, item_weight, items_of}
use Rattle.sa_plain.specs.Plains as plains
use Rattle.sa_plain.specs.Plains.{items_at}
use Rattle.sa_plain.specs.declared.items.Items.{Items}
use Rattle.sa_call.specs.declared.call.Call.{Call}
use Rattle.sa_call.specs.declared.call.Operand.{Operand}
use Rattle.sa_call.specs.declared.call.Operand.TheVariants as operand
use Rattle.sa_call.specs.declared.form.Gives.{Gives}
use Rattle.sa_call.specs.declared.form.Gives.TheVariants as gives
use Rattle.sa_call.specs.Decls.{Declared, IsDeclared, home_of, is_strings_array}
use Rattle.sa_call.specs.Told.{index_at_home, items_told, place_in, places_in, places_told, view_counts}
use Rattle.sa_call.specs.Valid.{is_operand_of}
use Rattle.sa_call.proofs.PartLemmas.{length-items, length-places, sum_by-map}
use Rattle.sa_hall.specs.Contents.{Contents, item_at, plain_at, reread}
use Rattle.sa_loop.specs.Held.{HasShape, IsStringsIn, IsViewIn}
use Rattle.sa_loop.specs.Runs.{shown, values_in}
use Rattle.sa_loop.specs.States.{view_items}
use Rattle.sa_loop.specs.Takes.{items_taken, part_by, weight_taken}
use Rattle.sa_loop.proofs.PartLemmas.{taken-weighs}
use Rattle.sa_loop.proofs.StepLemmas.{place_as}
use Rattle.sa_loop.proofs.ViewLemmas.{as-strings, ready-at}
use Rattle.sa_loop.proofs.WorldLemmas.{view-known}

-- a place with the item that is found there
abbrev pub there : Contents → Place → Place × Item
there c p = (p, item_at c p)

-- what was told by views, without its items

first-of-zip : {A B : Type 0} (xs : List A) (ys : List B) → length xs ≡ length ys → map (λ (p : A × B). p.0) (zip xs ys) ≡ xs
first-of-zip [] ys same = refl
first-of-zip (x ∷ xs) [] same = absurd (omega arith)
first-of-zip (x ∷ xs) (y ∷ ys) same = ap (λ zs. x ∷ zs) (first-of-zip xs ys (omega arith))

pub places-of-items : (decls : Declared) (d : ℕ) (os : List Operand) (lists : List Items) → map count_of lists ≡ view_counts os → map (λ (i : Place × Item). i.0) (items_told decls d os lists) ≡ places_told decls d os
places-of-items decls d [] lists same = refl
places-of-items decls d (operand.Literal items ∷ os) lists same = places-of-items decls d os lists same
places-of-items decls d (operand.View v ∷ os) [] same = cc
places-of-items decls d (operand.View v ∷ os) (items ∷ lists) same =
    let count : count_of items ≡ v.count = cc in
    let others : map count_of lists ≡ view_counts os = cc in
    let rest = places-of-items decls d os lists others in
    let many : length (places_in decls v) ≡ length (items_of items) = length-places decls v ∙ sym count ∙ sym (length-items items) in
    let fst : Place × Item → Place = λ i. i.0 in
    elim (cases_Bool (nat_eq (home_of decls v.array) d)) [
      | inl t ↦ rw t (map-append fst (zip (places_in decls v) (items_of items)) (items_told decls d os lists)
          ∙ ap (λ ps. ps ++ map fst (items_told decls d os lists)) (first-of-zip (places_in decls v) (items_of items) many)
          ∙ ap (λ ps. places_in decls v ++ ps) rest)
      | inr f ↦ rw f rest
    ]

-- what is taken by views is found at their places

zip-there : (c : Contents) (f : ℕ → Place) (g : ℕ → Item) (ps : List ℕ) → ((p : ℕ) → item_at c (f p) ≡ g p) → zip (map f ps) (map g ps) ≡ map (there c) (map f ps)
zip-there c f g [] same = refl
zip-there c f g (p ∷ ps) same = ap (λ (x : Item). (f p, x) ∷ zip (map f ps) (map g ps)) (sym (same p)) ∙ ap (λ xs. there c (f p) ∷ xs) (zip-there c f g ps same)

-- by the sort of the array

abbrev items_as : Bool → Declared → Contents → View → List Item
items_as b decls c v = cond b (map item_of (values_in decls c.layout v)) (items_at (plain_at c.plains (index_at_home decls v.array)) (places_of v))

strings-there : (decls : Declared) (c : Contents) (v : View) → IsStringsIn decls v c.layout → zip (map (place_as true (index_at_home decls v.array)) (places_of v)) (map item_of (values_in decls c.layout v)) ≡ map (there c) (map (place_as true (index_at_home decls v.array)) (places_of v))
strings-there decls c v is =
    let slot = index_at_home decls v.array in
    let value : ℕ → Value = λ p. value_at c.layout (first_entry c.layout.lengths slot + p) in
    ap (λ (vs : List Value). zip (map (place_as true slot) (places_of v)) (map item_of vs)) (sym (ready-at decls c.layout v is).values)
    ∙ ap (λ (xs : List Item). zip (map (place_as true slot) (places_of v)) xs) (map-map item_of value (places_of v))
    ∙ zip-there c (place_as true slot) (λ p. item_of (value p)) (places_of v) (λ p. refl)

plains-there : (decls : Declared) (c : Contents) (v : View) → zip (map (place_as false (index_at_home decls v.array)) (places_of v)) (items_at (plain_at c.plains (index_at_home decls v.array)) (places_of v)) ≡ map (there c) (map (place_as false (index_at_home decls v.array)) (places_of v))
plains-there decls c v = zip-there c (place_as false (index_at_home decls v.array)) (plains.item_at (plain_at c.plains (index_at_home decls v.array))) (places_of v) (λ p. refl)

view-there : (decls : Declared) (c : Contents) (v : View) → IsViewIn decls v c → zip (places_in decls v) (view_items decls (shown c) v) ≡ map (there c) (places_in decls v)
view-there decls c v is = go (is_strings_array decls v.array) refl
  where
    go : (b : Bool) → is_strings_array decls v.array ≡ b → zip (map (place_as b (index_at_home decls v.array)) (places_of v)) (items_as b decls c v) ≡ map (there c) (map (place_as b (index_at_home decls v.array)) (places_of v))
    go true strings = strings-there decls c v (as-strings decls v c is strings)
    go false other = plains-there decls c v

pub taken-there : (decls : Declared) (c : Contents) (d : ℕ) (os : List Operand) → IsDeclared decls → list_all (is_operand_of decls) os ≡ true → HasShape decls d c
    → items_taken decls (shown c) d os ≡ map (there c) (places_told decls d os)
taken-there decls c d [] declared views shape = refl
taken-there decls c d (operand.Literal items ∷ os) declared views shape = taken-there decls c d os declared (and_parts true (list_all (is_operand_of decls) os) views).1 shape
taken-there decls c d (operand.View v ∷ os) declared views shape =
    let both = and_parts (is_operand_of decls (operand.View v)) (list_all (is_operand_of decls) os) views in
    let rest = taken-there decls c d os declared both.1 shape in
    let known = view-known decls v both.0 in
    let read = zip (places_in decls v) (view_items decls (shown c) v) in
    elim (cases_Bool (nat_eq (home_of decls v.array) d)) [
      | inl t ↦
          let here = view-there decls c v (record { declared = declared; array = known.0; view = known.1; shape = subst (λ k. HasShape decls k c) (sym (eqb-true (home_of decls v.array) d t)) shape }) in
          rw t (ap (λ xs. xs ++ items_taken decls (shown c) d os) here ∙ ap (λ xs. map (there c) (places_in decls v) ++ xs) rest ∙ sym (map-append (there c) (places_in decls v) (places_told decls d os)))
      | inr f ↦ rw f rest
    ]

pub again-there : (c : Contents) (ps : List Place) → map (λ (i : Place × Item). there c i.0) (map (there c) ps) ≡ map (there c) ps
again-there c [] = refl
again-there c (p ∷ ps) = ap (λ xs. there c p ∷ xs) (again-there c ps)

-- and weighs there what it weighs
pub weight-there : (decls : Declared) (c : Contents) (d : ℕ) (os : List Operand) → IsDeclared decls → list_all (is_operand_of decls) os ≡ true → HasShape decls d c
    → sum_by (λ p. item_weight (item_at c p)) (places_told decls d os) ≡ weight_taken decls (shown c) d os
weight-there decls c d os declared views shape =
    let weigh : Place × Item → ℕ = λ i. item_weight i.1 in
    sym (sum_by-map weigh (there c) (places_told decls d os))
    ∙ ap (sum_by weigh) (sym (taken-there decls c d os declared views shape))
    ∙ taken-weighs decls (shown c) d os

-- a part of a valid call, read again, is the same
pub reread-part : (g : Gives) (decls : Declared) (c : Contents) (call : Call) (heavy : Bool) (d : ℕ) → IsDeclared decls → list_all (is_operand_of decls) call.operands ≡ true → HasShape decls d c
    → reread c (part_by g decls (shown c) call heavy d) ≡ part_by g decls (shown c) call heavy d
reread-part gives.Items decls c call true d declared views shape = ap (Weighed (places_told decls d call.operands)) (weight-there decls c d call.operands declared views shape)
reread-part gives.Items decls c call false d declared views shape =
    let taken = taken-there decls c d call.operands declared views shape in
    ap (λ xs. Read (map (λ (i : Place × Item). there c i.0) xs)) taken ∙ ap (λ xs. Read xs) (again-there c (places_told decls d call.operands)) ∙ ap (λ xs. Read xs) (sym taken)
reread-part gives.Statistics decls c call heavy d declared views shape = refl
reread-part gives.Picture decls c call true d declared views shape = refl
reread-part gives.Picture decls c call false d declared views shape = refl
