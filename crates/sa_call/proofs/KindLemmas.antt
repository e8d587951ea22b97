-- The kinds of items that are moved, and of results.
use Rattle.std.proofs.Common.{◌≡◌, ◌≤◌, ◌+◌, ◌-◌, ℕ, zero, suc, ℤ, eqb, leb, Bool, true, false, ◌&&◌, List, [], ◌∷◌, ◌++◌, length, map, replicate, Option, Some, None, Result, Ok, Err, refl, sym, ap, ◌∙◌, subst, arith, length-append}
use Rattle.std.specs.List.{list_all}
use Rattle.std.proofs.lemmas.Bool.{and_from, and_parts, eqb-true, false≢true, leb-true, le-leb}
use Rattle.std.proofs.lemmas.List.{append-nil, length-map, length-replicate}
use Rattle.std.proofs.lemmas.Simd.{map-map}
use Rattle.sa_base.specs.Items.{Item, MissingItem, TextItem, IntegerItem, FlagItem, BytesItem, UnitsItem}
use Rattle.sa_text.specs.Values.{item_of, value_of, stretched}
use Rattle.sa_text.specs.declared.value.Value.{Value}
use Rattle.sa_text.specs.declared.value.Value.TheVariants.{Missing, Of}
use Rattle.sa_plain.specs.Items.{count_of, items_of}
use Rattle.sa_plain.specs.Plains.{padded, padded_item}
use Rattle.sa_plain.specs.Spreads.{filled, spread, spread_list, widened}
use Rattle.sa_plain.specs.declared.items.Items.{Items}
use Rattle.sa_plain.specs.declared.items.Items.TheVariants.{Values, Ints, Flags, Bytes, Units}
use Rattle.sa_plain.specs.declared.kind.PlainKind.{PlainKind}
use Rattle.sa_plain.specs.declared.kind.PlainKind.TheVariants as plain
use Rattle.sa_call.specs.declared.call.Operand.{Operand}
use Rattle.sa_call.specs.declared.call.Operand.TheVariants as operand
use Rattle.sa_call.specs.declared.decls.Kind.{Kind}
use Rattle.sa_call.specs.declared.decls.Kind.TheVariants as kind
use Rattle.sa_call.specs.declared.form.Results.{Results}
use Rattle.sa_call.specs.declared.form.Results.TheVariants as results
use Rattle.sa_call.specs.declared.reply.Refusal.{Refusal}
use Rattle.sa_call.specs.Columns.{IsColumn}
use Rattle.sa_view.specs.declared.view.View.{View}
use Rattle.sa_call.specs.declared.call.Call.{Call}
use Rattle.sa_call.specs.Calls.{elements_in}
use Rattle.sa_call.specs.Decides.{forbids, given_element, given_item, kind_given, outcome_of, outcome_on, results_as, setting_of}
use Rattle.sa_call.specs.Decls.{Declared, kind_of}
use Rattle.sa_call.specs.Elements.{elements, gathered}
use Rattle.sa_call.specs.Forms.{entry}
use Rattle.sa_call.specs.Kinds.{first_items, given_items, output_width, ListKind, OfValues, OfInts, OfFlags, OfBytes, OfUnits, list_kind, output_fits, plain_items, array_items, operand_items, items_as, kind_width, are_within, fits_plain, fits_kind, is_same_plain, is_same_kind}
use Rattle.sa_call.specs.Valid.{goes_into, moves_into, results_fit}
use Rattle.sa_call.specs.Walks.{computed_items, computed_outcome}

-- kinds that are the same are equal
same-plain : (p q : PlainKind) → is_same_plain p q ≡ true → p ≡ q
same-plain plain.Int plain.Int same = refl
same-plain plain.Int plain.Bool same = absurd (false≢true same)
same-plain plain.Int (plain.Bytes w) same = absurd (false≢true same)
same-plain plain.Int (plain.Fixed w) same = absurd (false≢true same)
same-plain plain.Bool plain.Int same = absurd (false≢true same)
same-plain plain.Bool plain.Bool same = refl
same-plain plain.Bool (plain.Bytes w) same = absurd (false≢true same)
same-plain plain.Bool (plain.Fixed w) same = absurd (false≢true same)
same-plain (plain.Bytes v) plain.Int same = absurd (false≢true same)
same-plain (plain.Bytes v) plain.Bool same = absurd (false≢true same)
same-plain (plain.Bytes v) (plain.Bytes w) same = ap (λ n. plain.Bytes n) (eqb-true v w same)
same-plain (plain.Bytes v) (plain.Fixed w) same = absurd (false≢true same)
same-plain (plain.Fixed v) plain.Int same = absurd (false≢true same)
same-plain (plain.Fixed v) plain.Bool same = absurd (false≢true same)
same-plain (plain.Fixed v) (plain.Bytes w) same = absurd (false≢true same)
same-plain (plain.Fixed v) (plain.Fixed w) same = ap (λ n. plain.Fixed n) (eqb-true v w same)

pub same-kind : (j k : Kind) → is_same_kind j k ≡ true → j ≡ k
same-kind kind.Str kind.Str same = refl
same-kind kind.Str (kind.Plain q) same = absurd (false≢true same)
same-kind (kind.Plain p) kind.Str same = absurd (false≢true same)
same-kind (kind.Plain p) (kind.Plain q) same = ap (λ x. kind.Plain x) (same-plain p q same)

-- items that an array may hold are of its kind
fits-plain : (p : PlainKind) (items : Items) → fits_plain p items ≡ true → list_kind items ≡ plain_items p
fits-plain plain.Int (Values vs) fit = absurd (false≢true fit)
fits-plain plain.Int (Ints ns) fit = refl
fits-plain plain.Int (Flags bs) fit = absurd (false≢true fit)
fits-plain plain.Int (Bytes rows) fit = absurd (false≢true fit)
fits-plain plain.Int (Units rows) fit = absurd (false≢true fit)
fits-plain plain.Bool (Values vs) fit = absurd (false≢true fit)
fits-plain plain.Bool (Ints ns) fit = absurd (false≢true fit)
fits-plain plain.Bool (Flags bs) fit = refl
fits-plain plain.Bool (Bytes rows) fit = absurd (false≢true fit)
fits-plain plain.Bool (Units rows) fit = absurd (false≢true fit)
fits-plain (plain.Bytes w) (Values vs) fit = absurd (false≢true fit)
fits-plain (plain.Bytes w) (Ints ns) fit = absurd (false≢true fit)
fits-plain (plain.Bytes w) (Flags bs) fit = absurd (false≢true fit)
fits-plain (plain.Bytes w) (Bytes rows) fit = refl
fits-plain (plain.Bytes w) (Units rows) fit = absurd (false≢true fit)
fits-plain (plain.Fixed w) (Values vs) fit = absurd (false≢true fit)
fits-plain (plain.Fixed w) (Ints ns) fit = absurd (false≢true fit)
fits-plain (plain.Fixed w) (Flags bs) fit = absurd (false≢true fit)
fits-plain (plain.Fixed w) (Bytes rows) fit = absurd (false≢true fit)
fits-plain (plain.Fixed w) (Units rows) fit = refl

values-kind : (items : Items) → fits_kind kind.Str items ≡ true → list_kind items ≡ OfValues
values-kind (Values vs) fit = refl
values-kind (Ints ns) fit = absurd (false≢true fit)
values-kind (Flags bs) fit = absurd (false≢true fit)
values-kind (Bytes rows) fit = absurd (false≢true fit)
values-kind (Units rows) fit = absurd (false≢true fit)

pub fits-kind : (k : Kind) (items : Items) → fits_kind k items ≡ true → list_kind items ≡ array_items k
fits-kind kind.Str items fit = values-kind items fit
fits-kind (kind.Plain p) items fit = fits-plain p items fit

-- a column has the kind of its operand's items, and may be moved where the operand may
pub column-kind : (d : Declared) (o : Operand) (column : Items) → IsColumn d o column → operand_items d o ≡ list_kind column
column-kind d (operand.Literal items) column is = ap list_kind (sym is)
column-kind d (operand.View v) column is = sym (fits-kind (kind_of d v.array) column is)

pub column-moves : (d : Declared) (k : Kind) (o : Operand) (column : Items) → IsColumn d o column → moves_into d k o ≡ true → fits_kind k column ≡ true
column-moves d k (operand.Literal items) column is moves = ap (fits_kind k) is ∙ moves
column-moves d k (operand.View v) column is moves = ap (λ j. fits_kind j column) (sym (same-kind (kind_of d v.array) k moves)) ∙ is

-- items that are stretched and widened
spread-map : {A B : Type 0} (f : A → B) (n : ℕ) (xs : List A) → map f (spread_list n xs) ≡ spread_list n (map f xs)
spread-map f n [] = refl
spread-map f n (x ∷ []) = copies n
  where
    copies : (n : ℕ) → map f (replicate n x) ≡ replicate n (f x)
    copies zero = refl
    copies (suc n) = ap (λ ys. f x ∷ ys) (copies n)
spread-map f n (x ∷ y ∷ xs) = refl

stretched-spread : (n : ℕ) (vs : List Value) → stretched n vs ≡ spread_list n vs
stretched-spread n [] = refl
stretched-spread n (v ∷ []) = refl
stretched-spread n (v ∷ w ∷ vs) = refl

items-spread : (n : ℕ) (items : Items) → items_of (spread n items) ≡ spread_list n (items_of items)
items-spread n (Values vs) = ap (map item_of) (stretched-spread n vs) ∙ spread-map item_of n vs
items-spread n (Ints ns) = spread-map (λ x. IntegerItem x) n ns
items-spread n (Flags bs) = spread-map (λ x. FlagItem x) n bs
items-spread n (Bytes rows) = spread-map (λ x. BytesItem x) n rows
items-spread n (Units rows) = spread-map (λ x. UnitsItem x) n rows

-- items without a width are as they are
kept : {A : Type 0} (item : A → Item) (w : ℕ) → ((x : A) → item x ≡ padded_item w (item x)) → (xs : List A) → map item xs ≡ map (padded_item w) (map item xs)
kept item w each [] = refl
kept item w each (x ∷ xs) = ap (λ i. i ∷ map item xs) (each x) ∙ ap (λ is. padded_item w (item x) ∷ is) (kept item w each xs)

value-kept : (w : ℕ) (v : Value) → item_of v ≡ padded_item w (item_of v)
value-kept w Missing = refl
value-kept w (Of text) = refl

items-widened : (w : ℕ) (items : Items) → items_of (widened w items) ≡ map (padded_item w) (items_of items)
items-widened w (Values vs) = kept item_of w (value-kept w) vs
items-widened w (Ints ns) = kept (λ x. IntegerItem x) w (λ x. refl) ns
items-widened w (Flags bs) = kept (λ x. FlagItem x) w (λ x. refl) bs
items-widened w (Bytes rows) = map-map (λ x. BytesItem x) (filled w 0) rows ∙ sym (map-map (padded_item w) (λ x. BytesItem x) rows)
items-widened w (Units rows) = map-map (λ x. UnitsItem x) (filled w 0) rows ∙ sym (map-map (padded_item w) (λ x. UnitsItem x) rows)

pub items-held : (w n : ℕ) (items : Items) → items_of (widened w (spread n items)) ≡ map (padded_item w) (spread_list n (items_of items))
items-held w n items = items-widened w (spread n items) ∙ ap (map (padded_item w)) (items-spread n items)

pub kind-held : (w n : ℕ) (items : Items) → list_kind (widened w (spread n items)) ≡ list_kind items
kind-held w n (Values vs) = refl
kind-held w n (Ints ns) = refl
kind-held w n (Flags bs) = refl
kind-held w n (Bytes rows) = refl
kind-held w n (Units rows) = refl

-- items are themselves again as a list of their kind
back : {A : Type 0} (item : A → Item) (of : Item → A) → ((x : A) → x ≡ of (item x)) → (xs : List A) → xs ≡ map of (map item xs)
back item of each [] = refl
back item of each (x ∷ xs) = ap (λ y. y ∷ xs) (each x) ∙ ap (λ ys. of (item x) ∷ ys) (back item of each xs)

value-back : (v : Value) → v ≡ value_of (item_of v)
value-back Missing = refl
value-back (Of text) = refl

pub items-back : (items : Items) → items ≡ items_as (list_kind items) (items_of items)
items-back (Values vs) = ap (λ xs. Values xs) (back item_of value_of value-back vs)
items-back (Ints ns) = ap (λ xs. Ints xs) (back (λ x. IntegerItem x) _ (λ x. refl) ns)
items-back (Flags bs) = ap (λ xs. Flags xs) (back (λ x. FlagItem x) _ (λ x. refl) bs)
items-back (Bytes rows) = ap (λ xs. Bytes xs) (back (λ x. BytesItem x) _ (λ x. refl) rows)
items-back (Units rows) = ap (λ xs. Units xs) (back (λ x. UnitsItem x) _ (λ x. refl) rows)

-- how many there are
spread-few : {A : Type 0} (n : ℕ) (xs : List A) → n ≤ 8192 → length xs ≤ 8192 → length (spread_list n xs) ≤ 8192
spread-few n [] short few = omega arith
spread-few n (x ∷ []) short few = let same = length-replicate n x in omega arith
spread-few n (x ∷ y ∷ xs) short few = few

pub held-few : (w n : ℕ) (items : Items) → n ≤ 8192 → count_of items ≤ 8192 → count_of (widened w (spread n items)) ≤ 8192
held-few w n (Values vs) short few = subst (λ (xs : List Value). length xs ≤ 8192) (sym (stretched-spread n vs)) (spread-few n vs short few)
held-few w n (Ints ns) short few = spread-few n ns short few
held-few w n (Flags bs) short few = spread-few n bs short few
held-few w n (Bytes rows) short few = let same = length-map (spread_list n rows) (filled w 0) in let most = spread-few n rows short few in omega arith
held-few w n (Units rows) short few = let same = length-map (spread_list n rows) (filled w 0) in let most = spread-few n rows short few in omega arith

-- texts that are not wider are not wider with zeros behind them
filled-within : (w : ℕ) (row : List ℕ) → length row ≤ w → leb (length (filled w 0 row)) w ≡ true
filled-within w row within =
    let zero : List ℕ = replicate (w - length row) 0 in
    let both : length (row ++ zero) ≡ length row + length zero = length-append row zero in
    let zeros : length zero ≡ w - length row = length-replicate (w - length row) 0 in
    le-leb (length (filled w 0 row)) w (omega arith)

widened-within : (w : ℕ) (rows : List (List ℕ)) → are_within w rows ≡ true → are_within w (map (filled w 0) rows) ≡ true
widened-within w [] fit = refl
widened-within w (r ∷ rs) fit =
    let parts = and_parts (leb (length r) w) (are_within w rs) fit in
    and_from (leb (length (filled w 0 r)) w) (are_within w (map (filled w 0) rs)) (filled-within w r (leb-true (length r) w parts.0)) (widened-within w rs parts.1)

copies-within : (w n : ℕ) (row : List ℕ) → leb (length row) w ≡ true → are_within w (replicate n row) ≡ true
copies-within w zero row fit = refl
copies-within w (suc n) row fit = and_from (leb (length row) w) (are_within w (replicate n row)) fit (copies-within w n row fit)

spread-within : (w n : ℕ) (rows : List (List ℕ)) → are_within w rows ≡ true → are_within w (spread_list n rows) ≡ true
spread-within w n [] fit = refl
spread-within w n (r ∷ []) fit = copies-within w n r (and_parts (leb (length r) w) true fit).0
spread-within w n (r ∷ s ∷ rs) fit = fit

held-plain : (n : ℕ) (p : PlainKind) (items : Items) → fits_plain p items ≡ true → fits_plain p (widened (kind_width (kind.Plain p)) (spread n items)) ≡ true
held-plain n plain.Int (Values vs) fit = fit
held-plain n plain.Int (Ints ns) fit = fit
held-plain n plain.Int (Flags bs) fit = fit
held-plain n plain.Int (Bytes rows) fit = fit
held-plain n plain.Int (Units rows) fit = fit
held-plain n plain.Bool (Values vs) fit = fit
held-plain n plain.Bool (Ints ns) fit = fit
held-plain n plain.Bool (Flags bs) fit = fit
held-plain n plain.Bool (Bytes rows) fit = fit
held-plain n plain.Bool (Units rows) fit = fit
held-plain n (plain.Bytes w) (Values vs) fit = fit
held-plain n (plain.Bytes w) (Ints ns) fit = fit
held-plain n (plain.Bytes w) (Flags bs) fit = fit
held-plain n (plain.Bytes w) (Bytes rows) fit = widened-within w (spread_list n rows) (spread-within w n rows fit)
held-plain n (plain.Bytes w) (Units rows) fit = fit
held-plain n (plain.Fixed w) (Values vs) fit = fit
held-plain n (plain.Fixed w) (Ints ns) fit = fit
held-plain n (plain.Fixed w) (Flags bs) fit = fit
held-plain n (plain.Fixed w) (Bytes rows) fit = fit
held-plain n (plain.Fixed w) (Units rows) fit = widened-within w (spread_list n rows) (spread-within w n rows fit)

held-values : (n : ℕ) (items : Items) → fits_kind kind.Str items ≡ true → fits_kind kind.Str (widened 0 (spread n items)) ≡ true
held-values n (Values vs) fit = fit
held-values n (Ints ns) fit = fit
held-values n (Flags bs) fit = fit
held-values n (Bytes rows) fit = fit
held-values n (Units rows) fit = fit

pub held-fits : (n : ℕ) (k : Kind) (items : Items) → fits_kind k items ≡ true → fits_kind k (widened (kind_width k) (spread n items)) ≡ true
held-fits n kind.Str items fit = held-values n items fit
held-fits n (kind.Plain p) items fit = held-plain n p items fit

-- what is computed may be put into an array that is declared for it
abbrev pub is_computed : Results → Bool
is_computed results.Moved = false
is_computed results.Texts = true
is_computed results.Numbers = true
is_computed results.Flags = true

computed-fits : (d : Declared) (os : List Operand) (k : Kind) (given : Results) (is : List Item) → is_computed given ≡ true → goes_into d k os given ≡ true → fits_kind k (items_as (computed_items given) is) ≡ true
computed-fits d os k results.Moved is computed goes = absurd (false≢true computed)
computed-fits d os kind.Str results.Texts is computed goes = refl
computed-fits d os (kind.Plain p) results.Texts is computed goes = absurd (false≢true goes)
computed-fits d os kind.Str results.Numbers is computed goes = absurd (false≢true goes)
computed-fits d os (kind.Plain plain.Int) results.Numbers is computed goes = refl
computed-fits d os (kind.Plain plain.Bool) results.Numbers is computed goes = absurd (false≢true goes)
computed-fits d os (kind.Plain (plain.Bytes w)) results.Numbers is computed goes = absurd (false≢true goes)
computed-fits d os (kind.Plain (plain.Fixed w)) results.Numbers is computed goes = absurd (false≢true goes)
computed-fits d os kind.Str results.Flags is computed goes = absurd (false≢true goes)
computed-fits d os (kind.Plain plain.Int) results.Flags is computed goes = absurd (false≢true goes)
computed-fits d os (kind.Plain plain.Bool) results.Flags is computed goes = refl
computed-fits d os (kind.Plain (plain.Bytes w)) results.Flags is computed goes = absurd (false≢true goes)
computed-fits d os (kind.Plain (plain.Fixed w)) results.Flags is computed goes = absurd (false≢true goes)

-- and it is given as it is
given-same : (es : List (Result Item Refusal)) → map (given_element (λ i. i)) es ≡ es
given-same [] = refl
given-same (Ok i ∷ es) = ap (λ rest. Ok i ∷ rest) (given-same es)
given-same (Err e ∷ es) = ap (λ rest. Err e ∷ rest) (given-same es)

pub elements-computed : (given : Results) (w : ℕ) (es : List (Result Item Refusal)) → is_computed given ≡ true → map (given_element (given_item given w)) es ≡ es
elements-computed results.Moved w es computed = absurd (false≢true computed)
elements-computed results.Texts w es computed = given-same es
elements-computed results.Numbers w es computed = given-same es
elements-computed results.Flags w es computed = given-same es

pub kind-computed : (given : Results) (first : ListKind) → is_computed given ≡ true → given_items given first ≡ computed_items given
kind-computed results.Moved first computed = absurd (false≢true computed)
kind-computed results.Texts first computed = refl
kind-computed results.Numbers first computed = refl
kind-computed results.Flags first computed = refl

pub outcome-computed : (d : Declared) (call : Call) (weight : ℕ) (columns : List (List Item)) → is_computed (entry call.op).results ≡ true → outcome_on d call weight columns ≡ computed_outcome d call weight columns
outcome-computed d call weight columns computed =
    let given = (entry call.op).results in
    ap (λ es. outcome_of call.out (results_as (kind_given d call) (gathered (forbids d call.out) weight 0 es))) (elements-computed given (output_width d call.out) (elements (setting_of d call) call.op columns (elements_in call)) computed)
    ∙ ap (λ k. outcome_of call.out (results_as k (gathered (forbids d call.out) weight 0 (elements (setting_of d call) call.op columns (elements_in call))))) (kind-computed given (first_items d call.operands) computed)

-- what comes of a call that computes its results may be put into its output
outcome-fits : (d : Declared) (os : List Operand) (out : Option View) (given : Results) (found : Result (List Item) (Refusal × ℕ)) → is_computed given ≡ true → results_fit d given os out ≡ true
    → output_fits d out (outcome_of out (results_as (computed_items given) found)).results ≡ true
outcome-fits d os None given (Ok is) computed fit = refl
outcome-fits d os None given (Err refused) computed fit = refl
outcome-fits d os (Some out) given (Ok is) computed fit = computed-fits d os (kind_of d out.array) given is computed fit
outcome-fits d os (Some out) given (Err refused) computed fit = refl

pub made-fits : (d : Declared) (call : Call) (weight : ℕ) (columns : List (List Item)) → is_computed (entry call.op).results ≡ true → results_fit d (entry call.op).results call.operands call.out ≡ true
    → output_fits d call.out (computed_outcome d call weight columns).results ≡ true
made-fits d call weight columns computed fit =
    outcome-fits d call.operands call.out (entry call.op).results (gathered (forbids d call.out) weight 0 (elements (setting_of d call) call.op columns (elements_in call))) computed fit

-- what comes of a call that moves items may be put into its output
pub moved-fits : (d : Declared) (os : List Operand) (out : Option View) (o : Operand) (column held : Items) (n : ℕ) → os ≡ o ∷ [] → results_fit d results.Moved os out ≡ true → IsColumn d o column
    → held ≡ widened (output_width d out) (spread n column) → output_fits d out (outcome_of out (Ok held)).results ≡ true
moved-fits d os None o column held n one fit is same = refl
moved-fits d os (Some out) o column held n one fit is same =
    let k = kind_of d out.array in
    let moves = (and_parts (moves_into d k o) true (ap (list_all (moves_into d k)) (sym one) ∙ fit)).0 in
    ap (fits_kind k) same ∙ held-fits n k column (column-moves d k o column is moves)
