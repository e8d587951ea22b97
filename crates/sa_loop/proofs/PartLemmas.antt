-- What a call takes of a descriptor, and what that weighs.
use Rattle.std.proofs.Common.{◌≡◌, ◌+◌, ℕ, Bool, true, false, cond, inl, inr, nat_eq, List, [], ◌∷◌, length, map, get_or, refl, sym, ap, ◌∙◌, arith}
use Rattle.std.specs.List.{sum_by, zip}
use Rattle.std.proofs.lemmas.Bool.{cases_Bool}
use Rattle.std.proofs.lemmas.List.{length-map}
use Rattle.std.proofs.lemmas.List.Sums.{sum_by-append, sum_by-cons}
use Rattle.sa_base.specs.Items.{Item}
use Rattle.sa_base.specs.Deeds.{Place}
use Rattle.sa_text.specs.Values.{item_of, value_weight, weight_of}
use Rattle.sa_text.specs.declared.value.Value.{Value}
use Rattle.sa_text.specs.declared.value.Value.TheVariants.{Missing, Of}
use Rattle.sa_view.specs.Views.{places_of}
use Rattle.sa_view.specs.declared.view.View.{View}
use Rattle.sa_call.specs.declared.call.Operand.{Operand}
use Rattle.sa_call.specs.declared.call.Operand.TheVariants as operand
use Rattle.sa_call.specs.declared.call.Call.{Call}
use Rattle.sa_call.specs.declared.form.Gives.{Gives}
use Rattle.sa_call.specs.declared.form.Gives.TheVariants as gives
use Rattle.sa_call.specs.Decls.{Declared, home_of, is_strings_array}
use Rattle.sa_call.specs.Forms.{entry}
use Rattle.sa_plain.specs.Items.{item_weight}
use Rattle.sa_plain.specs.Plains.{item_at, items_at}
use Rattle.sa_hall.specs.Contents.{plain_at}
use Rattle.sa_call.specs.Parts.{part_weight}
use Rattle.sa_call.specs.Told.{index_at_home, place_in, places_in}
use Rattle.sa_loop.specs.Laws.{PartsTellWeights}
use Rattle.sa_loop.specs.States.{State, array_in, view_items, view_values}
use Rattle.sa_loop.specs.Takes.{items_taken, part_by, weight_by, weight_taken}

item-weighs : (v : Value) → item_weight (item_of v) ≡ value_weight v
item-weighs Missing = refl
item-weighs (Of text) = refl

-- values weigh what they weigh as items
pub values-weigh : (vs : List Value) → sum_by item_weight (map item_of vs) ≡ weight_of vs
values-weigh [] = refl
values-weigh (v ∷ vs) =
    sum_by-cons item_weight (item_of v) (map item_of vs)
    ∙ ap (λ n. n + sum_by item_weight (map item_of vs)) (item-weighs v)
    ∙ ap (λ n. value_weight v + n) (values-weigh vs)
    ∙ sym (sum_by-cons value_weight v vs)

-- items beside as many places weigh what they weigh
zip-weighs : (ps : List Place) (items : List Item) → length ps ≡ length items → sum_by (λ (i : Place × Item). item_weight i.1) (zip ps items) ≡ sum_by item_weight items
zip-weighs [] [] same = refl
zip-weighs [] (x ∷ items) same = absurd (omega arith)
zip-weighs (p ∷ ps) [] same = absurd (omega arith)
zip-weighs (p ∷ ps) (x ∷ items) same =
    sum_by-cons (λ (i : Place × Item). item_weight i.1) (p, x) (zip ps items)
    ∙ ap (λ n. item_weight x + n) (zip-weighs ps items (omega arith))
    ∙ sym (sum_by-cons item_weight x items)

-- a view has an item for each of its places
pub view-many : (decls : Declared) (s : State) (v : View) → length (view_items decls s v) ≡ length (places_of v)
view-many decls s v = go (is_strings_array decls v.array)
  where
    go : (b : Bool) → length (cond b (map item_of (view_values decls s v)) (items_at (plain_at s.plains (index_at_home decls v.array)) (places_of v))) ≡ length (places_of v)
    go true = length-map (view_values decls s v) item_of ∙ length-map (places_of v) (λ p. get_or (array_in s (index_at_home decls v.array)) p Missing)
    go false = length-map (places_of v) (item_at (plain_at s.plains (index_at_home decls v.array)))

pub taken-weighs : (decls : Declared) (s : State) (d : ℕ) (os : List Operand) → sum_by (λ (i : Place × Item). item_weight i.1) (items_taken decls s d os) ≡ weight_taken decls s d os
taken-weighs decls s d [] = refl
taken-weighs decls s d (operand.Literal items ∷ os) = taken-weighs decls s d os
taken-weighs decls s d (operand.View v ∷ os) =
    let weigh = λ (i : Place × Item). item_weight i.1 in
    let read = zip (places_in decls v) (view_items decls s v) in
    let rest = items_taken decls s d os in
    let again = taken-weighs decls s d os in
    let whole = zip-weighs (places_in decls v) (view_items decls s v) (length-map (places_of v) (place_in decls v) ∙ sym (view-many decls s v)) in
    elim (cases_Bool (nat_eq (home_of decls v.array) d)) [
      | inl t ↦ rw t (sum_by-append weigh read rest ∙ ap (λ n. n + sum_by weigh rest) whole ∙ ap (λ n. sum_by item_weight (view_items decls s v) + n) again)
      | inr f ↦ rw f (again ∙ omega arith)
    ]

part-tells : (g : Gives) (decls : Declared) (s : State) (call : Call) (heavy : Bool) (d : ℕ) → part_weight (part_by g decls s call heavy d) ≡ weight_by g decls s call d
part-tells gives.Items decls s call true d = refl
part-tells gives.Items decls s call false d = taken-weighs decls s d call.operands
part-tells gives.Statistics decls s call heavy d = refl
part-tells gives.Picture decls s call true d = refl
part-tells gives.Picture decls s call false d = refl

pub parts-tell : PartsTellWeights
parts-tell decls s call heavy d = part-tells (entry call.op).gives decls s call heavy d
