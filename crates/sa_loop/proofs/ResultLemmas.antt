-- How many results a call has.
use Rattle.std.proofs.Common.{◌≡◌, ◌+◌, ℕ, true, false, Bool, inl, inr, nat_lt, List, [], ◌∷◌, length, Option, Some, None, unwrap_or, Result, Ok, Err, refl, sym, ap, ◌∙◌, arith}
use Rattle.std.proofs.lemmas.Bool.{false≢true}
use Rattle.std.proofs.lemmas.Bool.Decides.{eqb_tells}
use Rattle.std.proofs.lemmas.List.FromFn.{length-map-range_with_len}
use Rattle.std.proofs.Math.ListN.{length-map}
use Rattle.sa_base.specs.Items.{Item}
use Rattle.sa_base.specs.Deeds.{Part, Read, Weighed, Counted, Pictured, PictureWeighed, part_at}
use Rattle.sa_text.specs.Values.{stretched, value_of}
use Rattle.sa_text.specs.declared.value.Value.{Value}
use Rattle.sa_view.specs.declared.view.View.{View}
use Rattle.sa_view.specs.Broadcasts.{broadcast}
use Rattle.sa_plain.specs.Items.{count_of, item_weight}
use Rattle.sa_plain.specs.declared.items.Items.{Items}
use Rattle.sa_plain.specs.declared.items.Items.TheVariants.{Values}
use Rattle.sa_call.specs.declared.call.Call.{Call}
use Rattle.sa_call.specs.declared.reply.Refusal.{Refusal}
use Rattle.sa_call.specs.declared.reply.Outcome.{Outcome}
use Rattle.sa_call.specs.Calls.{counts_of, elements_in, is_length_of}
use Rattle.sa_call.specs.Decides.{decide, decided, forbids, given_elements, kind_given, outcome_of, results_as, told_by, setting_of}
use Rattle.sa_call.specs.Kinds.{ListKind, OfBytes, OfFlags, OfInts, OfUnits, OfValues, bytes_in, items_as, units_in}
use Rattle.sa_call.specs.Decls.{Declared}
use Rattle.sa_call.specs.Elements.{and_admitted, and_later, elements, gathered, with_front}
use Rattle.sa_call.specs.Forms.{descr_of, flag_in, number_in}
use Rattle.sa_call.specs.Limits.{most_weight}
use Rattle.sa_call.specs.Parts.{Parts, columns_of, items_read, weight_read}
use Rattle.sa_call.specs.Valid.{IsCall}

-- results are as many as the elements
front-many : (item : Item) (r : Result (List Item) (Refusal × ℕ)) (items : List Item) (n : ℕ) → ((ys : List Item) → r ≡ Ok ys → length ys ≡ n) → with_front item r ≡ Ok items → length items ≡ n + 1
front-many item (Ok ys) items n many is = let here = many ys refl in let same : items ≡ item ∷ ys = cc in omega (arith, ap length same)
front-many item (Err e) items n many is = cc

gathered-many : (forbidden : Bool) (weight at : ℕ) (es : List (Result Item Refusal)) (items : List Item) → gathered forbidden weight at es ≡ Ok items → length items ≡ length es
gathered-many forbidden weight at [] items is = let same : items ≡ [] = cc in ap length same
gathered-many forbidden weight at (e ∷ es) items is = go (and_admitted forbidden weight e) is (λ w k ys. gathered-many forbidden w k es ys)
  where
    go : (a : Result Item Refusal) → and_later at a (λ item. gathered forbidden (weight + item_weight item) (at + 1) es) ≡ Ok items → ((w k : ℕ) (ys : List Item) → gathered forbidden w k es ≡ Ok ys → length ys ≡ length es) → length items ≡ length (e ∷ es)
    go (Ok item) told later = front-many item (gathered forbidden (weight + item_weight item) (at + 1) es) items (length es) (later (weight + item_weight item) (at + 1)) told ∙ omega arith
    go (Err cause) told later = cc

abbrev HasResults : Outcome → Items → Type 0
HasResults o items = o.results ≡ Some items

as-many : (kind : ListKind) (ys : List Item) → count_of (items_as kind ys) ≡ length ys
as-many OfValues ys = length-map ys value_of
as-many OfInts ys = length-map ys number_in
as-many OfFlags ys = length-map ys flag_in
as-many OfBytes ys = length-map ys bytes_in
as-many OfUnits ys = length-map ys units_in

given-many : (v : View) (kind : ListKind) (r : Result (List Item) (Refusal × ℕ)) (items : Items) (n : ℕ) → ((ys : List Item) → r ≡ Ok ys → length ys ≡ n) → HasResults (outcome_of (Some v) (results_as kind r)) items → count_of items ≡ n
given-many v kind (Ok ys) items n many is = let same : items ≡ items_as kind ys = cc in ap count_of same ∙ (as-many kind ys ∙ many ys refl)
given-many v kind (Err e) items n many is = cc

told-none : (p : Part) (items : Items) → HasResults (told_by p) items → ⊥
told-none (Read found) items is = cc
told-none (Weighed places weight) items is = cc
told-none (Counted stats) items is = cc
told-none (Pictured entries arena) items is = cc
told-none (PictureWeighed weight) items is = cc

elements-of_output : (v : View) (o : Option ℕ) → is_length_of (Some v) o ≡ true → unwrap_or o 0 ≡ v.count
elements-of_output v None fits = cc
elements-of_output v (Some n) fits = elim (eqb_tells v.count n) [ inl same ↦ sym same.1 | inr apart ↦ let e = apart.0 in cc ]

-- the results of a valid call are as many as its output has places
pub results-many : (decls : Declared) (call : Call) (parts : Parts) (v : View) (items : Items) → IsCall decls call → call.out ≡ Some v → (decide decls call parts).results ≡ Some items → count_of items ≡ v.count
results-many decls call parts v items valid out is = heavy (nat_lt most_weight (weight_read call parts)) refl
  where
    light : (o : Option ℕ) → HasResults (decided decls call o parts) items → count_of items ≡ v.count
    light (Some d) told = absurd (told-none (part_at parts d) items told)
    light None told =
        let columns = columns_of decls (λ d. items_read (part_at parts d)) call.operands in
        let es = given_elements decls call columns in
        let all = elements (setting_of decls call) call.op columns (elements_in call) in
        let many : length es ≡ elements_in call = length-map all _ ∙ length-map-range_with_len _ 0 (elements_in call) in
        let fits : is_length_of (Some v) (broadcast (counts_of call)) ≡ true = ap (λ o. is_length_of o (broadcast (counts_of call))) (sym out) ∙ valid.lengths in
        let size = elements-of_output v (broadcast (counts_of call)) fits in
        let r = gathered (forbids decls call.out) (weight_read call parts) 0 es in
        let kind = kind_given decls call in
        let told_out : HasResults (outcome_of (Some v) (results_as kind r)) items = ap (λ o. (outcome_of o (results_as kind r)).results) (sym out) ∙ told in
        given-many v kind r items v.count (λ ys e. gathered-many (forbids decls call.out) (weight_read call parts) 0 es ys e ∙ (many ∙ size)) told_out

    heavy : (b : Bool) → nat_lt most_weight (weight_read call parts) ≡ b → count_of items ≡ v.count
    heavy true e = let none : Some items ≡ None = sym is ∙ rw e refl in cc
    heavy false e = light (descr_of call.op) (sym (rw e refl) ∙ is)

-- the values that are planned are the results
pub results-are : (count : ℕ) (slice values : List Value) (results : Items) → results ≡ Values values → values ≡ stretched (length values) slice → count_of results ≡ count → stretched count slice ≡ values
results-are count slice values results same told many = ap (λ n. stretched n slice) (sym many ∙ ap count_of same) ∙ sym told
