-- How many items operands and outputs have, and how many elements a call with one operand has.
use Rattle.std.proofs.Common.{◌≡◌, ◌⊎◌, inl, inr, ℕ, ◌<◌, ◌≤◌, eqb, Bool, true, false, cond, nat_lt, List, [], ◌∷◌, ◌++◌, length, map, Option, Some, None, unwrap_or, refl, sym, ap, ◌∙◌, subst, arith}
use Rattle.std.specs.List.{AllByRecursion, list_all, list_any}
use Rattle.std.specs.Option.{option_and_then}
use Rattle.std.proofs.lemmas.Bool.{and_parts, eqb-true, eq-eqb, false≢true, ltb-true, or_cases}
use Rattle.std.proofs.lemmas.List.Sums.{sum_by_more_le}
use Rattle.std.proofs.lemmas.Map.Steps.{length-le_from_distinct_below}
use Rattle.sa_view.specs.Broadcasts.{broadcast, broadcast_on, joined}
use Rattle.sa_view.specs.Views.{fits, places_of}
use Rattle.sa_view.specs.declared.view.View.{View}
use Rattle.sa_view.proofs.ViewLemmas.{are-places}
use Rattle.sa_call.specs.declared.call.Call.{Call}
use Rattle.sa_call.specs.declared.call.Operand.{Operand}
use Rattle.sa_call.specs.declared.call.Operand.TheVariants as operand
use Rattle.sa_call.specs.declared.decls.Kind.TheVariants as kind
use Rattle.sa_call.specs.Calls.{operand_count, output_counts, counts_of, elements_in, is_length_of, lengths_fit}
use Rattle.sa_call.specs.Decls.{Declared, IsDeclared, entries_at, length_at, array_at}
use Rattle.sa_call.specs.Valid.{is_operand_of, is_output_of, is_view_of, IsCall, IsLiteralOperand}

-- what is among numbers below a bound is below it
any-below : (xs : List ℕ) (n q : ℕ) → AllByRecursion (λ p. p < n) xs → list_any (eqb q) xs ≡ true → q < n
any-below [] n q below any = absurd (false≢true any)
any-below (x ∷ xs) n q below any = elim (or_cases (eqb q x) (list_any (eqb q) xs) any) [
  | inl here ↦ let same = eqb-true q x here in let less = below.0 in omega arith
  | inr later ↦ any-below xs n q below.1 later
]

-- a view names no more places than the array that it fits has
fits-count : (v : View) (n : ℕ) → fits n v ≡ true → v.count ≤ n
fits-count v n fit =
    let places = are-places v n fit in
    let few = length-le_from_distinct_below (places_of v) n places.distinct (λ q any. any-below (places_of v) n q places.within any) in
    let count = places.count in
    omega arith

-- an array has no more items than its descriptor may have entries
length-few : (d : Declared) (k : ℕ) → IsDeclared d → k < length d.arrays → length_at d.arrays k ≤ 8192
length-few d k declared below =
    let a = array_at d.arrays k in
    let whole = sum_by_more_le (entries_at a.home) d.arrays k (record { home = 0; kind = kind.Str; len = 0 }) below in
    let e = eq-eqb a.home a.home refl in
    let here : entries_at a.home a ≡ a.len = rw e refl in
    let most = declared.entries a.home in
    omega arith

view-few : (d : Declared) (v : View) → IsDeclared d → is_view_of d v ≡ true → v.count ≤ 8192
view-few d v declared view =
    let parts = and_parts (nat_lt v.array (length d.arrays)) (fits (length_at d.arrays v.array) v) view in
    let count = fits-count v (length_at d.arrays v.array) parts.1 in
    let few = length-few d v.array declared (ltb-true v.array (length d.arrays) parts.0) in
    omega arith

operand-few : (d : Declared) (o : Operand) → IsDeclared d → is_operand_of d o ≡ true → IsLiteralOperand o → operand_count o ≤ 8192
operand-few d (operand.View v) declared view literal = view-few d v declared view
operand-few d (operand.Literal items) declared view literal = literal.few

-- no operand of a valid call has more items than a list may have
pub operands-few : (d : Declared) (os : List Operand) → IsDeclared d → list_all (is_operand_of d) os ≡ true → AllByRecursion IsLiteralOperand os → AllByRecursion (λ o. operand_count o ≤ 8192) os
operands-few d [] declared views literals = tt
operands-few d (o ∷ os) declared views literals =
    let parts = and_parts (is_operand_of d o) (list_all (is_operand_of d) os) views in
    (operand-few d o declared parts.0 literals.0, operands-few d os declared parts.1 literals.1)

-- nor has its output
output-few : (d : Declared) (out : Option View) (n : ℕ) → IsDeclared d → is_output_of d out ≡ true → output_counts out ≡ n ∷ [] → n ≤ 8192
output-few d None n declared view same = cc
output-few d (Some v) n declared view same = let few = view-few d v declared view in let e : v.count ≡ n = cc in omega arith

pub joined-one : (m : ℕ) → joined 1 m ≡ Some m
joined-one m = go (eqb m 1) refl
  where
    go : (b : Bool) → eqb m 1 ≡ b → joined 1 m ≡ Some m
    go true e = rw e (ap (λ n. Some n) (sym (eqb-true m 1 e)))
    go false e = rw e refl

-- the elements of one operand are as many as its items, or, where there is one item alone, as many as the output's
one-length : (m : ℕ) (out : Option View) → is_length_of out (broadcast_on m (output_counts out)) ≡ true
    → (unwrap_or (broadcast_on m (output_counts out)) 0 ≡ m) ⊎ ((m ≡ 1) × (output_counts out ≡ unwrap_or (broadcast_on m (output_counts out)) 0 ∷ []))
one-length m None fit = inl refl
one-length m (Some v) fit = go (eqb v.count 1) (eqb m 1) (eqb m v.count) refl fit
  where
    go : (a b c : Bool) → eqb m 1 ≡ b
        → is_length_of (Some v) (option_and_then (λ l. Some l) (cond a (Some m) (cond b (Some v.count) (cond c (Some m) None)))) ≡ true
        → (unwrap_or (option_and_then (λ l. Some l) (cond a (Some m) (cond b (Some v.count) (cond c (Some m) None)))) 0 ≡ m)
        ⊎ ((m ≡ 1) × (v.count ∷ [] ≡ unwrap_or (option_and_then (λ l. Some l) (cond a (Some m) (cond b (Some v.count) (cond c (Some m) None)))) 0 ∷ []))
    go true b c e h = inl refl
    go false true c e h = inr (eqb-true m 1 e, refl)
    go false false true e h = inl refl
    go false false false e h = absurd (false≢true h)

pub elements-many : (call : Call) (m : ℕ) → map operand_count call.operands ≡ m ∷ [] → lengths_fit call ≡ true
    → (elements_in call ≡ m) ⊎ ((m ≡ 1) × (output_counts call.out ≡ elements_in call ∷ []))
elements-many call m one fit =
    let counts : broadcast (counts_of call) ≡ broadcast_on m (output_counts call.out) =
    ap (λ ms. broadcast (ms ++ output_counts call.out)) one ∙ ap (λ o. option_and_then (λ l. broadcast_on l (output_counts call.out)) o) (joined-one m) in
    subst (λ (o : Option ℕ). (unwrap_or o 0 ≡ m) ⊎ ((m ≡ 1) × (output_counts call.out ≡ unwrap_or o 0 ∷ []))) (sym counts)
    (one-length m call.out (ap (is_length_of call.out) (sym counts) ∙ fit))

one-few : (os : List Operand) (m : ℕ) → AllByRecursion (λ o. operand_count o ≤ 8192) os → map operand_count os ≡ m ∷ [] → m ≤ 8192
one-few [] m few one = cc
one-few (o ∷ os) m few one = let e : operand_count o ≡ m = cc in let h = few.0 in omega arith

-- a valid call with one operand has no more items and no more elements than a list may have
pub call-few : (d : Declared) (call : Call) (m : ℕ) → IsDeclared d → IsCall d call → map operand_count call.operands ≡ m ∷ [] → (m ≤ 8192) × (elements_in call ≤ 8192)
call-few d call m declared valid one =
    let few = one-few call.operands m (operands-few d call.operands declared valid.views valid.literals) one in (
      few,
      elim (elements-many call m one valid.lengths) [
        | inl same ↦ omega arith
        | inr p ↦ output-few d call.out (elements_in call) declared valid.into p.1
      ],
    )
