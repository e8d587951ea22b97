-- The descriptors of a valid call's views are declared.
use Rattle.std.proofs.Common.{◌≡◌, ◌<◌, ◌≤◌, ℕ, zero, suc, Bool, true, false, cond, nat_lt, ◌++◌, List, [], ◌∷◌, length, map, get_or, Option, Some, None, is_some, arith, length-append}
use Rattle.std.specs.List.{All, AllByRecursion, list_all}
use Rattle.std.proofs.lemmas.Bool.{and_parts, ltb-true}
use Rattle.std.proofs.lemmas.List.Elements.{All-from_recursion}
use Rattle.sa_view.specs.Views.{fits}
use Rattle.sa_view.specs.declared.view.View.{View}
use Rattle.sa_call.specs.declared.call.Call.{Call}
use Rattle.sa_call.specs.declared.call.Operand.{Operand}
use Rattle.sa_call.specs.declared.call.Operand.TheVariants as operand
use Rattle.sa_call.specs.declared.decls.ArrayDecl.{ArrayDecl}
use Rattle.sa_call.specs.declared.decls.Kind.TheVariants as kind
use Rattle.sa_call.specs.Calls.{homes_in, operand_arrays, output_arrays, strings_home, strings_homes}
use Rattle.sa_call.specs.Decls.{Declared, IsDeclared, home_of, is_strings_array, length_at}
use Rattle.sa_call.specs.Forms.{entry}
use Rattle.sa_call.proofs.OpLemmas.{few-operands, on-group}
use Rattle.sa_call.specs.Valid.{IsCall, fit_table, is_operand_of, is_output_of, is_view_of}

home-there : (n : ℕ) (arrays : List ArrayDecl) (k : ℕ) → AllByRecursion (λ (a : ArrayDecl). a.home < n) arrays → k < length arrays → (get_or arrays k (record { home = 0; kind = kind.Str; len = 0 })).home < n
home-there n [] k all below = absurd (omega arith)
home-there n (a ∷ rest) zero all below = all.0
home-there n (a ∷ rest) (suc k) all below = home-there n rest k all.1 (omega arith)

view-home : (d : Declared) (v : View) → IsDeclared d → is_view_of d v ≡ true → home_of d v.array < length d.descrs
view-home d v declared view = home-there (length d.descrs) d.arrays v.array declared.homes (ltb-true v.array (length d.arrays) (and_parts (nat_lt v.array (length d.arrays)) (fits (length_at d.arrays v.array) v) view).0)

all-append : (n : ℕ) (xs ys : List ℕ) → AllByRecursion (λ k. k < n) xs → AllByRecursion (λ k. k < n) ys → AllByRecursion (λ k. k < n) (xs ++ ys)
all-append n [] ys all others = others
all-append n (x ∷ xs) ys all others = (all.0, all-append n xs ys all.1 others)

-- a view of a strings array has a home that is declared, and another view none
strings-declared : (d : Declared) (v : View) → IsDeclared d → is_view_of d v ≡ true → AllByRecursion (λ k. k < length d.descrs) (strings_home d v.array)
strings-declared d v declared view = go (is_strings_array d v.array)
  where
    go : (b : Bool) → AllByRecursion (λ k. k < length d.descrs) (cond b (home_of d v.array ∷ []) [])
    go true = (view-home d v declared view, tt)
    go false = tt

pub homes-declared : (d : Declared) (os : List Operand) (out : Option View) → IsDeclared d → list_all (is_operand_of d) os ≡ true → is_output_of d out ≡ true
    → AllByRecursion (λ (n : ℕ). n < length d.descrs) (strings_homes d (operand_arrays os ++ output_arrays out))
homes-declared d [] None declared views into = tt
homes-declared d [] (Some v) declared views into = all-append (length d.descrs) (strings_home d v.array) [] (strings-declared d v declared into) tt
homes-declared d (operand.Literal items ∷ os) out declared views into = homes-declared d os out declared (and_parts true (list_all (is_operand_of d) os) views).1 into
homes-declared d (operand.View v ∷ os) out declared views into =
    let parts = and_parts (is_view_of d v) (list_all (is_operand_of d) os) views in
    all-append (length d.descrs) (strings_home d v.array) (strings_homes d (operand_arrays os ++ output_arrays out)) (strings-declared d v declared parts.0) (homes-declared d os out declared parts.1 into)

pub call-homes : (d : Declared) (call : Call) → IsDeclared d → IsCall d call → All (λ (n : ℕ). n < length d.descrs) (homes_in d call)
call-homes d call declared valid = All-from_recursion (λ (n : ℕ). n < length d.descrs) (homes_in d call) (homes-declared d call.operands call.out declared valid.views valid.into)

-- and they are few
few-arrays : (os : List Operand) → length (operand_arrays os) ≤ length os
few-arrays [] = omega arith
few-arrays (operand.View v ∷ os) = let rest = few-arrays os in omega arith
few-arrays (operand.Literal items ∷ os) = let rest = few-arrays os in omega arith

few-output : (out : Option View) → length (output_arrays out) ≤ 1
few-output None = omega arith
few-output (Some v) = omega arith

few-strings : (d : Declared) (arrays : List ℕ) → length (strings_homes d arrays) ≤ length arrays
few-strings d [] = omega arith
few-strings d (a ∷ rest) =
    let both = length-append (strings_home d a) (strings_homes d rest) in
    let later = few-strings d rest in
    let here = one (is_strings_array d a) in
    omega arith
  where
    one : (b : Bool) → length (cond b (home_of d a ∷ []) []) ≤ 1
    one true = omega arith
    one false = omega arith

pub homes-few : (d : Declared) (call : Call) → is_some (entry call.op).group ≡ true → fit_table call.op call.operands ≡ true → length (homes_in d call) < 4294967296
homes-few d call given sorts =
    let operands = few-operands call.op call.operands (on-group call.op given) sorts in
    let arrays = few-arrays call.operands in
    let output = few-output call.out in
    let both = length-append (operand_arrays call.operands) (output_arrays call.out) in
    let strings = few-strings d (operand_arrays call.operands ++ output_arrays call.out) in
    omega arith
