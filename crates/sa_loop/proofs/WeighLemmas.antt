-- What is read or weighed of operands, one after another, and of descriptors.
use Rattle.std.proofs.Common.{◌≡◌, ◌≢◌, ◌<◌, ◌+◌, ℕ, suc, Bool, true, false, cond, List, [], ◌∷◌, ◌++◌, length, map, drop, get_or, refl, sym, ap, ◌∙◌, arith, add-one, append_assoc}
use Rattle.std.specs.List.{filter, range_with_len, sum, sum_by}
use Rattle.std.proofs.Math.Seq.{drop-cons}
use Rattle.std.proofs.lemmas.Bool.{and_from, eq-eqb, ne_eqb}
use Rattle.std.proofs.lemmas.List.{append-nil, map-append}
use Rattle.std.proofs.lemmas.List.FromFn.{filter_of_map_range_with_len_more}
use Rattle.std.proofs.lemmas.List.Sums.{sum_by_push}
use Rattle.sa_view.specs.declared.view.View.{View}
use Rattle.sa_base.specs.Items.{Item}
use Rattle.sa_plain.specs.Items.{item_weight}
use Rattle.sa_plain.specs.declared.items.Items.{Items}
use Rattle.sa_call.specs.declared.call.Call.{Call}
use Rattle.sa_call.specs.declared.call.Operand.{Operand}
use Rattle.sa_call.specs.declared.call.Operand.TheVariants as operand
use Rattle.sa_call.specs.declared.form.Gives.{Gives}
use Rattle.sa_call.specs.declared.form.Gives.TheVariants as gives
use Rattle.sa_call.specs.Decls.{Declared, home_of, kind_of}
use Rattle.sa_call.specs.Kinds.{fits_kind, lists_fit}
use Rattle.sa_loop.specs.States.{State, World, view_items}
use Rattle.sa_loop.specs.Takes.{views_taken, weight_by, weight_taken}

-- an operand and those behind it
next : (os : List Operand) (k : ℕ) (o : Operand) → o ≡ get_or os k o → k < length os → drop k os ≡ o ∷ drop (k + 1) os
next os k o is below = drop-cons os k o below ∙ ap (λ x. x ∷ drop (suc k) os) (sym is) ∙ ap (λ n. o ∷ drop n os) (sym (add-one k))

-- the weight of views

first-weighs : (decls : Declared) (s : State) (d : ℕ) (o : Operand) (os : List Operand) → weight_taken decls s d (o ∷ os) ≡ weight_taken decls s d (o ∷ []) + weight_taken decls s d os
first-weighs decls s d (operand.View v) os = omega arith
first-weighs decls s d (operand.Literal items) os = omega arith

pub weight-next : (decls : Declared) (s : State) (d : ℕ) (os : List Operand) (k : ℕ) (o : Operand) (before now one : ℕ) → o ≡ get_or os k o → k < length os → before + weight_taken decls s d (drop k os) ≡ weight_taken decls s d os
    → now ≡ before + one → one ≡ weight_taken decls s d (o ∷ []) → now + weight_taken decls s d (drop (k + 1) os) ≡ weight_taken decls s d os
weight-next decls s d os k o before now one is below whole more same =
    let left = ap (weight_taken decls s d) (next os k o is below) in
    let first = first-weighs decls s d o (drop (k + 1) os) in
    omega arith

pub weight-here : (decls : Declared) (s : State) (d : ℕ) (v : View) → home_of decls v.array ≡ d → sum_by item_weight (view_items decls s v) ≡ weight_taken decls s d (operand.View v ∷ [])
weight-here decls s d v same = let e = eq-eqb (home_of decls v.array) d same in rw e (omega arith)

pub weight-elsewhere : (decls : Declared) (s : State) (d : ℕ) (v : View) → home_of decls v.array ≢ d → 0 ≡ weight_taken decls s d (operand.View v ∷ [])
weight-elsewhere decls s d v apart = let e = ne_eqb (home_of decls v.array) d apart in rw e (omega arith)

-- the lists of views

first-read : (decls : Declared) (w : World) (o : Operand) (os : List Operand) → views_taken decls w (o ∷ os) ≡ views_taken decls w (o ∷ []) ++ views_taken decls w os
first-read decls w (operand.View v) os = refl
first-read decls w (operand.Literal items) os = refl

pub views-next : (decls : Declared) (w : World) (os : List Operand) (k : ℕ) (o : Operand) (before now : List (List Item)) → o ≡ get_or os k o → k < length os → before ++ views_taken decls w (drop k os) ≡ views_taken decls w os
    → now ≡ before ++ views_taken decls w (o ∷ []) → now ++ views_taken decls w (drop (k + 1) os) ≡ views_taken decls w os
views-next decls w os k o before now is below whole more =
    ap (λ xs. xs ++ views_taken decls w (drop (k + 1) os)) more
    ∙ append_assoc before (views_taken decls w (o ∷ [])) (views_taken decls w (drop (k + 1) os))
    ∙ ap (λ xs. before ++ xs) (sym (first-read decls w o (drop (k + 1) os)) ∙ ap (views_taken decls w) (sym (next os k o is below)))
    ∙ whole

-- the lists so far, with whatever fits what is left, fit all
abbrev pub FitSoFar : Declared → List Operand → ℕ → List Items → Type 0
FitSoFar decls os k lists = (rest : List Items) → lists_fit decls (drop k os) rest ≡ true → lists_fit decls os (lists ++ rest) ≡ true

pub fit-view : (decls : Declared) (os : List Operand) (k : ℕ) (o : Operand) (v : View) (x : Items) (before now : List Items) → o ≡ get_or os k o → k < length os → o ≡ operand.View v → fits_kind (kind_of decls v.array) x ≡ true
    → FitSoFar decls os k before → now ≡ before ++ x ∷ [] → FitSoFar decls os (k + 1) now
fit-view decls os k o v x before now is below viewed fits so_far more rest fit =
    ap (λ ls. lists_fit decls os (ls ++ rest)) more
    ∙ ap (lists_fit decls os) (append_assoc before (x ∷ []) rest)
    ∙ so_far (x ∷ rest)
    (ap (λ ys. lists_fit decls ys (x ∷ rest)) (next os k o is below ∙ ap (λ y. y ∷ drop (k + 1) os) viewed)
    ∙ and_from (fits_kind (kind_of decls v.array) x) (lists_fit decls (drop (k + 1) os) rest) fits fit)

pub fit-literal : (decls : Declared) (os : List Operand) (k : ℕ) (o : Operand) (items : Items) (before now : List Items) → o ≡ get_or os k o → k < length os → o ≡ operand.Literal items
    → FitSoFar decls os k before → now ≡ before → FitSoFar decls os (k + 1) now
fit-literal decls os k o items before now is below literal so_far same rest fit =
    ap (λ ls. lists_fit decls os (ls ++ rest)) same
    ∙ so_far rest (ap (λ ys. lists_fit decls ys rest) (next os k o is below ∙ ap (λ y. y ∷ drop (k + 1) os) literal) ∙ fit)

-- the weights of descriptors

map-same : (xs : List ℕ) → map (λ x. x) xs ≡ xs
map-same [] = refl
map-same (x ∷ xs) = ap (λ ys. x ∷ ys) (map-same xs)

pub kept : (p : ℕ → Bool) (n : ℕ) → filter p (range_with_len 0 (n + 1)) ≡ filter p (range_with_len 0 n) ++ cond (p n) (n ∷ []) []
kept p n =
    ap (filter p) (sym (map-same (range_with_len 0 (n + 1))))
    ∙ filter_of_map_range_with_len_more p (λ x. x) 0 n n (omega arith)
    ∙ ap (λ xs. filter p xs ++ cond (p n) (n ∷ []) []) (map-same (range_with_len 0 n))

pub weights-named : (f : ℕ → ℕ) (p : ℕ → Bool) (n : ℕ) (before now : List ℕ) (one : ℕ) → before ≡ map f (filter p (range_with_len 0 n)) → p n ≡ true → one ≡ f n → now ≡ before ++ one ∷ [] → now ≡ map f (filter p (range_with_len 0 (n + 1)))
weights-named f p n before now one so_far named same more =
    let here : filter p (range_with_len 0 (n + 1)) ≡ filter p (range_with_len 0 n) ++ n ∷ [] = kept p n ∙ ap (λ (b : Bool). filter p (range_with_len 0 n) ++ cond b (n ∷ []) []) named in
    more ∙ ap (λ xs. xs ++ one ∷ []) so_far ∙ ap (λ x. map f (filter p (range_with_len 0 n)) ++ x ∷ []) same ∙ sym (ap (map f) here ∙ map-append f (filter p (range_with_len 0 n)) (n ∷ []))

pub weights-other : (f : ℕ → ℕ) (p : ℕ → Bool) (n : ℕ) (before now : List ℕ) → before ≡ map f (filter p (range_with_len 0 n)) → p n ≡ false → now ≡ before → now ≡ map f (filter p (range_with_len 0 (n + 1)))
weights-other f p n before now so_far other same =
    let here : filter p (range_with_len 0 (n + 1)) ≡ filter p (range_with_len 0 n) = kept p n ∙ ap (λ (b : Bool). filter p (range_with_len 0 n) ++ cond b (n ∷ []) []) other ∙ append-nil (filter p (range_with_len 0 n)) in
    same ∙ so_far ∙ sym (ap (map f) here)

pub sum-more : (xs ys : List ℕ) (one before now : ℕ) → before ≡ sum xs → ys ≡ xs ++ one ∷ [] → now ≡ before + one → now ≡ sum ys
sum-more xs ys one before now is more then' =
    let whole = ap sum more in
    let last = sum_by_push (λ x. x) xs one in
    omega arith

pub weight-same : (g : Gives) (decls : Declared) (s : State) (call : Call) (d : ℕ) → g ≡ gives.Items → weight_by g decls s call d ≡ weight_taken decls s d call.operands
weight-same gives.Items decls s call d same = refl
weight-same gives.Statistics decls s call d same = cc
weight-same gives.Picture decls s call d same = cc
