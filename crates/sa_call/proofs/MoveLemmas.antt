-- Calls that move the items of their one operand.
use Rattle.std.proofs.Common.{◌≡◌, ◌⊎◌, inl, inr, ℕ, zero, suc, ◌+◌, ◌<◌, ◌≤◌, eqb, nat_lt, Bool, true, false, ◌&&◌, cond, List, [], ◌∷◌, length, map, replicate, get_or, take, drop, Option, Some, None, Result, Ok, Err, refl, sym, ap, ◌∙◌, arith, drop-cons}
use Rattle.std.specs.List.{range_with_len}
use Rattle.std.proofs.lemmas.Bool.{ne_eqb}
use Rattle.std.proofs.lemmas.List.{take_all}
use Rattle.std.proofs.lemmas.Simd.{map-map}
use Rattle.sa_base.specs.Items.{Item, MissingItem}
use Rattle.sa_plain.specs.Items.{count_of, items_of, item_weight}
use Rattle.sa_plain.specs.Plains.{padded_item}
use Rattle.sa_plain.specs.Spreads.{spread, spread_list, widened}
use Rattle.sa_plain.specs.declared.items.Items.{Items}
use Rattle.sa_call.specs.declared.form.Results.{Results}
use Rattle.sa_call.specs.declared.form.Results.TheVariants as results
use Rattle.sa_call.specs.declared.call.Call.{Call}
use Rattle.sa_call.specs.declared.call.Op.{Op}
use Rattle.sa_descr.specs.declared.descr.NaRule.{NaRule}
use Rattle.sa_call.specs.declared.reply.Refusal.{Refusal}
use Rattle.sa_call.specs.declared.reply.Refusal.TheVariants as refusal
use Rattle.sa_call.specs.Calls.{elements_in, lengths_fit, operand_count}
use Rattle.sa_call.specs.Decides.{forbids, given_element, given_elements, given_item, kind_given, outcome_of, outcome_on, results_as, rule_in, setting_by, setting_of}
use Rattle.sa_call.specs.Decls.{Declared}
use Rattle.sa_call.specs.Elements.{elements, and_later, gathered, is_missing_item, with_front}
use Rattle.sa_call.specs.Forms.{IsMoving, Row, entry, item}
use Rattle.sa_call.specs.Kinds.{ListKind, first_items, given_items, list_kind, output_width}
use Rattle.sa_call.specs.Refusals.{at_place, refused}
use Rattle.sa_call.proofs.CountLemmas.{elements-many}
use Rattle.sa_call.proofs.KindLemmas.{items-back, items-held, kind-held}
use Rattle.sa_call.proofs.PartLemmas.{length-items}

moving-elements : (o : Op) (rule : NaRule) (columns : List (List Item)) (n : ℕ) → IsMoving o → elements (setting_by (entry o).group rule) o columns n ≡ map (λ k. Ok (item (record { columns = columns; at = k; blank = [] }) 0)) (range_with_len 0 n)
moving-elements o rule columns n is =
    ap (λ g. elements (setting_by g rule) o columns n) is.group
    ∙ ap (λ (e : Row → Result Item Refusal). map (λ k. e (record { columns = columns; at = k; blank = [] })) (range_with_len 0 n)) is.element

-- the elements that move items
abbrev moved : List Item → List (Result Item Refusal)
moved is = map (λ i. Ok i) is

-- one item stands for all places
moved-one : (x : Item) (a n : ℕ) → map (λ k. Ok (item (record { columns = (x ∷ []) ∷ []; at = k; blank = [] }) 0)) (range_with_len a n) ≡ moved (replicate n x)
moved-one x a zero = refl
moved-one x a (suc n) = ap (λ es. Ok x ∷ es) (moved-one x (a + 1) n)

-- other items stand each at its place
moved-at : (xs : List Item) (k n : ℕ) → k + n ≤ length xs → map (λ j. Ok (get_or xs j MissingItem)) (range_with_len k n) ≡ moved (take n (drop k xs))
moved-at xs k zero within = refl
moved-at xs k (suc n) within =
    let below : k < length xs = omega arith in
    let next : k + 1 ≡ suc k = omega arith in
    let rest = moved-at xs (k + 1) n (omega arith) ∙ ap (λ j. moved (take n (drop j xs))) next in
    rw (drop-cons xs k MissingItem below) (ap (λ es. Ok (get_or xs k MissingItem) ∷ es) rest)

moved-many : (xs : List Item) → eqb (length xs) 1 ≡ false → map (λ k. Ok (item (record { columns = xs ∷ []; at = k; blank = [] }) 0)) (range_with_len 0 (length xs)) ≡ moved xs
moved-many xs many =
    ap (λ (b : Bool). map (λ k. Ok (get_or xs (cond b 0 k) MissingItem)) (range_with_len 0 (length xs))) many
    ∙ moved-at xs 0 (length xs) (omega arith)
    ∙ ap moved (take_all (length xs) xs (omega arith))

-- the elements are the items, stretched
moved-stretched : (xs : List Item) (n : ℕ) → (n ≡ length xs) ⊎ (length xs ≡ 1) → map (λ k. Ok (item (record { columns = xs ∷ []; at = k; blank = [] }) 0)) (range_with_len 0 n) ≡ moved (spread_list n xs)
moved-stretched [] n (inl same) = rw same refl
moved-stretched [] n (inr one) = absurd (omega arith)
moved-stretched (x ∷ []) n fit = moved-one x 0 n
moved-stretched (x ∷ y ∷ xs) n (inl same) = rw same (moved-many (x ∷ y ∷ xs) (ne_eqb (length (x ∷ y ∷ xs)) 1 (λ one. omega arith)))
moved-stretched (x ∷ y ∷ xs) n (inr one) = absurd (omega arith)

-- what comes of results by their first refusal
abbrev pub came : Option (Refusal × ℕ) → List Item → Result (List Item) (Refusal × ℕ)
came None is = Ok is
came (Some r) is = Err r

front-came : (i : Item) (is : List Item) (r : Option (Refusal × ℕ)) → with_front i (came r is) ≡ came r (i ∷ is)
front-came i is None = refl
front-came i is (Some r) = refl

came-cons : (at : ℕ) (i : Item) (is : List Item) (b c : Bool) (later : Item → Result (List Item) (Refusal × ℕ)) (r : Option (Refusal × ℕ)) → later i ≡ came r is
    → and_later at (cond b (Err refusal.NoMissing) (cond c (Err refusal.TooMuch) (Ok i))) later ≡ came (at_place at (cond b (Some refusal.NoMissing) (cond c (Some refusal.TooMuch) None)) r) (i ∷ is)
came-cons at i is true c later r rest = refl
came-cons at i is false true later r rest = refl
came-cons at i is false false later r rest = ap (with_front i) rest ∙ front-came i is r

gathered-came : (f : Bool) (weight at : ℕ) (is : List Item) → gathered f weight at (moved is) ≡ came (refused f weight at is) is
gathered-came f weight at [] = refl
gathered-came f weight at (i ∷ is) =
    came-cons at i is (f && is_missing_item i) (nat_lt 1048576 (weight + item_weight i)) (λ j. gathered f (weight + item_weight j) (at + 1) (moved is)) (refused f (weight + item_weight i) (at + 1) is)
    (gathered-came f (weight + item_weight i) (at + 1) is)

-- the items, or their first refusal
abbrev pub given : Option (Refusal × ℕ) → Items → Result Items (Refusal × ℕ)
given None items = Ok items
given (Some r) items = Err r

came-given : (r : Option (Refusal × ℕ)) (items : Items) → given r items ≡ results_as (list_kind items) (came r (items_of items))
came-given None items = ap (λ x. Ok x) (items-back items)
came-given (Some r) items = refl

-- what comes of a call that moves items
pub outcome-moved : (d : Declared) (call : Call) (weight : ℕ) (items held : Items) (r : Option (Refusal × ℕ))
    → IsMoving call.op → lengths_fit call ≡ true → map operand_count call.operands ≡ count_of items ∷ [] → first_items d call.operands ≡ list_kind items
    → held ≡ widened (output_width d call.out) (spread (elements_in call) items) → r ≡ refused (forbids d call.out) weight 0 (items_of held)
    → outcome_of call.out (given r held) ≡ outcome_on d call weight (items_of items ∷ [])
outcome-moved d call weight items held r is fit one first same refuses =
    let n = elements_in call in
    let w = output_width d call.out in
    let long = length-items items in
    let fits : (n ≡ length (items_of items)) ⊎ (length (items_of items) ≡ 1) = elim (elements-many call (count_of items) one fit) [ inl e ↦ inl (omega arith) | inr p ↦ let e = p.0 in inr (omega arith) ] in
    let each : elements (setting_of d call) call.op (items_of items ∷ []) n ≡ moved (spread_list n (items_of items)) = moving-elements call.op (rule_in d call) (items_of items ∷ []) n is ∙ moved-stretched (items_of items) n fits in
    let held_items : items_of held ≡ map (padded_item w) (spread_list n (items_of items)) = ap items_of same ∙ items-held w n items in
    let gives : given_elements d call (items_of items ∷ []) ≡ moved (items_of held) =
    ap (λ (k : Results). map (given_element (given_item k w)) (elements (setting_of d call) call.op (items_of items ∷ []) n)) is.results
    ∙ ap (map (given_element (padded_item w))) each
    ∙ map-map (given_element (padded_item w)) (λ i. Ok i) (spread_list n (items_of items))
    ∙ sym (map-map (λ i. Ok i) (padded_item w) (spread_list n (items_of items)))
    ∙ ap moved (sym held_items) in
    let all : gathered (forbids d call.out) weight 0 (given_elements d call (items_of items ∷ [])) ≡ came r (items_of held) =
    ap (gathered (forbids d call.out) weight 0) gives ∙ gathered-came (forbids d call.out) weight 0 (items_of held) ∙ ap (λ q. came q (items_of held)) (sym refuses) in
    let kind : kind_given d call ≡ list_kind held = ap (λ (k : Results). given_items k (first_items d call.operands)) is.results ∙ first ∙ sym (ap list_kind same ∙ kind-held w n items) in
    ap (outcome_of call.out) (came-given r held ∙ ap (results_as (list_kind held)) (sym all))
    ∙ ap (λ (k : ListKind). outcome_of call.out (results_as k (gathered (forbids d call.out) weight 0 (given_elements d call (items_of items ∷ []))))) (sym kind)
