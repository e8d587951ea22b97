-- Declared arrays: their lengths, and the entries of a descriptor.
use Rattle.std.proofs.Common.{◌≡◌, ℕ, ◌+◌, ◌<◌, ◌≤◌, true, eqb, ltb, List, length, take, refl, sym, ap, arith, eq-eqb}
use Rattle.std.proofs.lemmas.List.{get_or_past}
use Rattle.std.proofs.lemmas.List.Sums.{sum_by_more_le, get_or-le-sum_by}
use Rattle.std.proofs.lemmas.Bool.{lt-ltb}
use Rattle.sa_call.specs.declared.decls.ArrayDecl.{ArrayDecl}
use Rattle.sa_call.specs.declared.decls.Kind.TheVariants as kind
use Rattle.sa_call.specs.Decls.{entries_of, entries_at, length_at, array_at}

pub length_at_past : (arrays : List ArrayDecl) (k : ℕ) → length arrays ≤ k → length_at arrays k ≡ 0
length_at_past arrays k past = ap (λ (a : ArrayDecl). a.len) (get_or_past arrays k (record { home = 0; kind = kind.Str; len = 0 }) past)

-- an array that takes more than the room left passes the limit, with all that follow it
pub entries_pass : (arrays : List ArrayDecl) (home i room len : ℕ) → i < length arrays → (array_at arrays i).home ≡ home → room < (array_at arrays i).len
    → room + (entries_of (take i arrays) home + len) ≡ 8192 → true ≡ ltb 8192 (entries_of arrays home + len)
entries_pass arrays home i room len below same more spent =
    let whole = sum_by_more_le (entries_at home) arrays i (record { home = 0; kind = kind.Str; len = 0 }) below in
    let e : eqb (array_at arrays i).home home ≡ true = eq-eqb (array_at arrays i).home home same in
    let here : entries_at home (array_at arrays i) ≡ (array_at arrays i).len = rw e refl in
    sym (lt-ltb 8192 (entries_of arrays home + len) (omega (arith, whole, here)))

-- no array is longer than all of its home together
pub length-few : (arrays : List ArrayDecl) (most k : ℕ) → ((home : ℕ) → entries_of arrays home ≤ most) → k < length arrays → (array_at arrays k).len ≤ most
length-few arrays most k few below =
    let home = (array_at arrays k).home in
    let e : eqb home home ≡ true = eq-eqb home home refl in
    let here : entries_at home (array_at arrays k) ≡ (array_at arrays k).len = rw e refl in
    omega (arith, get_or-le-sum_by (entries_at home) arrays k (record { home = 0; kind = kind.Str; len = 0 }) below, few home, here)
