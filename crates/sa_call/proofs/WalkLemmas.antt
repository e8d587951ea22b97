-- The results of a walk, one element after another, are those that are gathered at once.
use Rattle.std.proofs.Common.{◌≡◌, ℕ, ◌+◌, ◌≤◌, suc, nat_lt, ◌&&◌, Bool, true, false, cond, List, [], ◌∷◌, map, Result, Ok, Err, refl, sym, ap, ◌∙◌, subst}
use Rattle.std.specs.List.{range_with_len}
use Rattle.std.proofs.lemmas.Bool.{ltb-false}
use Rattle.std.proofs.lemmas.List.{append_assoc}
use Rattle.sa_base.specs.Items.{Item}
use Rattle.sa_text.specs.Values.{value_of}
use Rattle.sa_plain.specs.declared.items.Items.{Items}
use Rattle.sa_plain.specs.declared.items.Items.TheVariants.{Values, Ints, Flags}
use Rattle.sa_call.specs.declared.form.Results.{Results}
use Rattle.sa_call.specs.declared.form.Results.TheVariants as results
use Rattle.sa_call.specs.declared.results.ResultList.{ResultList}
use Rattle.sa_call.specs.declared.results.ResultList.TheVariants as so_far
use Rattle.sa_call.specs.Decides.{results_as}
use Rattle.sa_call.specs.Forms.{flag_in, number_in}
use Rattle.sa_call.specs.declared.reply.Refusal.{Refusal}
use Rattle.sa_call.specs.declared.reply.Refusal.TheVariants as refusal
use Rattle.sa_call.specs.declared.element.Stop.{Stop}
use Rattle.sa_call.specs.declared.element.Stop.TheVariants as stop
use Rattle.sa_call.specs.Elements.{StopsElement, admitted, and_admitted, and_later, gathered, is_missing_item, with_front}
use Rattle.sa_call.specs.Walks.{HaltsResults, computed_items, halt_at, joined, no_results, results_with, with_result}
use Rattle.sa_plain.specs.Items.{item_weight}

-- what is joined to no results is what is gathered
pub joined-none : (kind : Results) (r : Result (List Item) (Refusal × ℕ)) → joined (no_results kind) r ≡ results_as (computed_items kind) r
joined-none results.Moved (Ok items) = refl
joined-none results.Texts (Ok items) = refl
joined-none results.Numbers (Ok items) = refl
joined-none results.Flags (Ok items) = refl
joined-none results.Moved (Err refused) = refl
joined-none results.Texts (Err refused) = refl
joined-none results.Numbers (Err refused) = refl
joined-none results.Flags (Err refused) = refl

-- an item in front of what is gathered is one result more
with-front : (rs : ResultList) (item : Item) (items : List Item) → results_with rs (item ∷ items) ≡ results_with (with_result rs item) items
with-front (so_far.Values vs) item items = ap (λ all. Values all) (sym (append_assoc vs (value_of item ∷ []) (map value_of items)))
with-front (so_far.Numbers ns) item items = ap (λ all. Ints all) (sym (append_assoc ns (number_in item ∷ []) (map number_in items)))
with-front (so_far.Flags bs) item items = ap (λ all. Flags all) (sym (append_assoc bs (flag_in item ∷ []) (map flag_in items)))

joined-front : (rs : ResultList) (item : Item) (r : Result (List Item) (Refusal × ℕ)) → joined rs (with_front item r) ≡ joined (with_result rs item) r
joined-front rs item (Ok items) = ap (λ x. Ok x) (with-front rs item items)
joined-front rs item (Err refused) = refl

-- a result that is admitted leaves the weight within its limit
admitted-light : (b : Bool) (w : ℕ) (x i : Item) → admitted b w x ≡ Ok i → w + item_weight i ≤ 1048576
admitted-light b w x i e = go (b && is_missing_item x) (nat_lt 1048576 (w + item_weight x)) refl e
  where
    go : (f g : Bool) → nat_lt 1048576 (w + item_weight x) ≡ g → cond f (Err refusal.NoMissing) (cond g (Err refusal.TooMuch) (Ok x)) ≡ Ok i → w + item_weight i ≤ 1048576
    go true g light h = cc
    go false true light h = cc
    go false false light h =
        let same : x ≡ i = cc in
        subst (λ (y : Item). w + item_weight y ≤ 1048576) same (ltb-false 1048576 (w + item_weight x) light)

pub light-more : (b : Bool) (w : ℕ) (e : Result Item Refusal) (i : Item) → and_admitted b w e ≡ Ok i → w + item_weight i ≤ 1048576
light-more b w (Ok x) i h = admitted-light b w x i h
light-more b w (Err cause) i h = cc

-- one element more
pub walk-more : (b : Bool) (w k m : ℕ) (f : ℕ → Result Item Refusal) (rs rs' : ResultList) (item : Item) (all : Result Items (Refusal × ℕ)) → and_admitted b w (f k) ≡ Ok item → rs' ≡ with_result rs item
    → joined rs (gathered b w k (map f (range_with_len k (suc m)))) ≡ all
    → joined rs' (gathered b (w + item_weight item) (k + 1) (map f (range_with_len (k + 1) m))) ≡ all
walk-more b w k m f rs rs' item all goes more before =
    let later : Item → Result (List Item) (Refusal × ℕ) = λ i. gathered b (w + item_weight i) (k + 1) (map f (range_with_len (k + 1) m)) in
    let step : gathered b w k (map f (range_with_len k (suc m))) ≡ with_front item (later item) = ap (λ e. and_later k e later) goes in
    ap (λ (r : ResultList). joined r (later item)) more
    ∙ sym (joined-front rs item (later item))
    ∙ ap (joined rs) (sym step)
    ∙ before

-- the first that is refused
pub walk-refused : (b : Bool) (w k m : ℕ) (f : ℕ → Result Item Refusal) (rs : ResultList) (cause : Refusal) (all : Result Items (Refusal × ℕ)) → and_admitted b w (f k) ≡ Err cause
    → joined rs (gathered b w k (map f (range_with_len k (suc m)))) ≡ all → all ≡ Err (cause, k)
walk-refused b w k m f rs cause all stops before =
    let later : Item → Result (List Item) (Refusal × ℕ) = λ item. gathered b (w + item_weight item) (k + 1) (map f (range_with_len (k + 1) m)) in
    sym before ∙ ap (joined rs) (ap (λ e. and_later k e later) stops)

-- and the end
pub walk-end : (b : Bool) (w k m : ℕ) (f : ℕ → Result Item Refusal) (rs : ResultList) (all : Result Items (Refusal × ℕ)) → m ≡ 0
    → joined rs (gathered b w k (map f (range_with_len k m))) ≡ all → all ≡ Ok (results_with rs [])
walk-end b w k m f rs all none before = sym before ∙ ap (λ n. joined rs (gathered b w k (map f (range_with_len k n)))) none

-- an element that is not computed stops the walk
pub walk-stops : (b : Bool) (w k m : ℕ) (f : ℕ → Result Item Refusal) (rs : ResultList) (s : Stop) (all : Result Items (Refusal × ℕ)) → StopsElement s (and_admitted b w (f k))
    → joined rs (gathered b w k (map f (range_with_len k (suc m)))) ≡ all → HaltsResults (halt_at s k) all
walk-stops b w k m f rs stop.Memory all stops before = tt
walk-stops b w k m f rs (stop.Refused cause) all stops before = walk-refused b w k m f rs cause all stops before
