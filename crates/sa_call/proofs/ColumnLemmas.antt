-- The columns of a call: how many items each has, and the one of a call that moves.
use Rattle.std.proofs.Common.{◌≡◌, ℕ, ◌≤◌, ltb, true, false, List, [], ◌∷◌, length, map, slice_get, Some, refl, sym, ap, ◌∙◌, subst, arith}
use Rattle.std.specs.List.{AllByRecursion}
use Rattle.std.proofs.lemmas.Bool.{and_parts, le-ltb}
use Rattle.std.proofs.lemmas.List.{length-map}
use Rattle.std.proofs.lemmas.Simd.{map-map}
use Rattle.sa_plain.specs.Items.{count_of, items_of}
use Rattle.sa_plain.specs.declared.items.Items.{Items}
use Rattle.sa_call.specs.declared.call.Call.{Call}
use Rattle.sa_call.specs.declared.call.Operand.{Operand}
use Rattle.sa_call.specs.declared.call.Operand.TheVariants as operand
use Rattle.sa_call.specs.Calls.{operand_count}
use Rattle.sa_call.specs.Columns.{columns_read, columns_weight, outcome_read, AreColumns, IsColumn}
use Rattle.sa_call.specs.Decides.{outcome_on}
use Rattle.sa_call.specs.Decls.{Declared, kind_of}
use Rattle.sa_call.specs.Kinds.{fits_kind, lists_fit}
use Rattle.sa_call.specs.Told.{view_counts}

-- each column has as many items as its operand
pub columns-counts : (os : List Operand) (lists : List Items) → map count_of lists ≡ view_counts os → map count_of (columns_read os lists) ≡ map operand_count os
columns-counts [] lists same = refl
columns-counts (operand.Literal items ∷ os) lists same = ap (λ ns. count_of items ∷ ns) (columns-counts os lists same)
columns-counts (operand.View v ∷ os) [] same = cc
columns-counts (operand.View v ∷ os) (items ∷ lists) same =
    let rest : map count_of lists ≡ view_counts os = cc in
    let later = columns-counts os lists rest in
    cc

-- so none has more than a list may have, where no operand has, lent or not
few-map : {A B : Type 0} (f : A → ℕ) (g : B → ℕ) (xs : List A) (ys : List B) → map f xs ≡ map g ys → AllByRecursion (λ y. g y ≤ 8192) ys → AllByRecursion (λ x. f x ≤ 8192) xs
few-map f g [] ys same few = tt
few-map f g (x ∷ xs) [] same few = cc
few-map f g (x ∷ xs) (y ∷ ys) same few =
    let here : f x ≡ g y = cc in
    let most = few.0 in
    (omega arith, few-map f g xs ys (cc) few.1)

few-lent : {A : Type 0} (now : A → Items) (lent : List A) → AllByRecursion (λ c. count_of c ≤ 8192) (map now lent) → AllByRecursion (λ c. count_of (now c) ≤ 8192) lent
few-lent now [] few = tt
few-lent now (c ∷ cs) few = (few.0, few-lent now cs few.1)

pub columns-few : {A : Type 0} (now : A → Items) (lent : List A) (os : List Operand) (lists : List Items) → map now lent ≡ columns_read os lists → map count_of lists ≡ view_counts os
    → AllByRecursion (λ o. operand_count o ≤ 8192) os → AllByRecursion (λ c. count_of (now c) ≤ 8192) lent
columns-few now lent os lists read same few =
    let columns = few-map count_of operand_count (columns_read os lists) os (columns-counts os lists same) few in
    few-lent now lent (subst (AllByRecursion (λ c. count_of c ≤ 8192)) (sym read) columns)

-- the only column is the first
first-one : {A : Type 0} (items : A → Items) (lent : List A) (c : A) (os : List Operand) → map (λ (a : A). count_of (items a)) lent ≡ map operand_count os → length os ≡ 1 → slice_get lent 0 ≡ Some c → lent ≡ c ∷ []
first-one items lent c os counts one first = go lent long first
  where
    long : length lent ≡ 1
    long = sym (length-map lent (λ a. count_of (items a))) ∙ ap length counts ∙ length-map os operand_count ∙ one

    go : {A : Type 0} → (lent : List A) → {c : A} → length lent ≡ 1 → slice_get lent 0 ≡ Some c → lent ≡ c ∷ []
    go [] long first = absurd (omega arith)
    go (x ∷ []) long first = cc
    go (x ∷ y ∷ xs) long first = absurd (omega arith)

-- it is one for the only operand, and has as many items
pub record IsOneColumn (d : Declared) (call : Call) (columns : List Items) (column : Items) : Type 0 where
  pub operand : Operand
  pub operands : call.operands ≡ operand ∷ []
  pub count : map operand_count call.operands ≡ count_of column ∷ []
  pub is : IsColumn d operand column
  pub only : map items_of columns ≡ items_of column ∷ []

only-operand : (os : List Operand) → length os ≡ 1 → (o : Operand) × (os ≡ o ∷ [])
only-operand [] one = absurd (omega arith)
only-operand (o ∷ []) one = (o, refl)
only-operand (o ∷ p ∷ os) one = absurd (omega arith)

pub one-column : {A : Type 0} (d : Declared) (call : Call) (items : A → Items) (lent : List A) (c : A) → map (λ (a : A). count_of (items a)) lent ≡ map operand_count call.operands → length call.operands ≡ 1 → slice_get lent 0 ≡ Some c
    → AreColumns d call.operands (map items lent) → IsOneColumn d call (map items lent) (items c)
one-column d call items lent c counts one first are =
    let all = first-one items lent c call.operands counts one first in
    let only = only-operand call.operands one in
    let both : AreColumns d (only.0 ∷ []) (items c ∷ []) = subst (λ (os : List Operand). AreColumns d os (items c ∷ [])) only.1 (subst (λ (l : List _). AreColumns d call.operands (map items l)) all are) in
    record {
      operand = only.0;
      operands = only.1;
      count = sym counts ∙ ap (map (λ a. count_of (items a))) all;
      is = both.0;
      only = ap (λ l. map items_of (map items l)) all;
    }

-- the columns that are read are those of the operands
pub columns-are : (d : Declared) (os : List Operand) (lists : List Items) → map count_of lists ≡ view_counts os → lists_fit d os lists ≡ true → AreColumns d os (columns_read os lists)
columns-are d [] lists counts fit = tt
columns-are d (operand.Literal items ∷ os) lists counts fit = (refl, columns-are d os lists counts fit)
columns-are d (operand.View v ∷ os) [] counts fit = cc
columns-are d (operand.View v ∷ os) (l ∷ ls) counts fit =
    let rest : map count_of ls ≡ view_counts os = cc in
    let parts = and_parts (fits_kind (kind_of d v.array) l) (lists_fit d os ls) fit in
    (parts.0, columns-are d os ls rest parts.1)

-- what comes of a call that is not too heavy
pub outcome-light : (d : Declared) (call : Call) (columns : List Items) (weight : ℕ) → weight ≡ columns_weight columns → weight ≤ 1048576
    → outcome_on d call weight (map items_of columns) ≡ outcome_read d call columns
outcome-light d call columns weight weighs light =
    let fits : ltb 1048576 (columns_weight columns) ≡ false = le-ltb 1048576 (columns_weight columns) (omega arith) in
    rw fits (ap (λ w. outcome_on d call w (map items_of columns)) weighs)

-- columns that are lent have as many items as the operands
pub lent-counts : {A : Type 0} (now : A → Items) (lent : List A) (os : List Operand) (lists : List Items) → map now lent ≡ columns_read os lists → map count_of lists ≡ view_counts os → map (λ (a : A). count_of (now a)) lent ≡ map operand_count os
lent-counts now lent os lists read same = sym (map-map count_of now lent) ∙ ap (map count_of) read ∙ columns-counts os lists same

-- and what comes of them is what comes of those that were read
pub outcome-lent : {A : Type 0} (d : Declared) (call : Call) (now : A → Items) (lent : List A) (lists : List Items) (weight : ℕ) → map now lent ≡ columns_read call.operands lists → weight ≡ columns_weight (map now lent) → weight ≤ 1048576
    → outcome_on d call weight (map (λ (a : A). items_of (now a)) lent) ≡ outcome_read d call (columns_read call.operands lists)
outcome-lent d call now lent lists weight read weighs light =
    ap (outcome_on d call weight) (sym (map-map items_of now lent) ∙ ap (map items_of) read)
    ∙ outcome-light d call (columns_read call.operands lists) weight (weighs ∙ ap columns_weight read) light
