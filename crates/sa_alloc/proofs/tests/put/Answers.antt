-- Places one after another differ, and all exist where the last does.
use Rattle.std.proofs.Common.{◌≡◌, ◌+◌, ◌<◌, ◌≤◌, ℕ, suc, false, List, [], ◌∷◌, length, get_or, ap, sym, subst, arith}
use Rattle.std.proofs.Math.Dec.{eqb}
use Rattle.std.proofs.lemmas.Bool.{ne_eqb}
use Rattle.std.specs.List.{AllByRecursion, IsDistinct}
use Rattle.sa_alloc.specs.Stores.{AreDistinct}
use Rattle.sa_alloc.proofs.tests.put.Goals as goal

abbrev InRow : ℕ → List ℕ → Type 0
InRow first places = (j : ℕ) → j < length places → get_or places j 0 ≡ first + j

in-tail : (first p : ℕ) (ps : List ℕ) → InRow first (p ∷ ps) → InRow (first + 1) ps
in-tail first p ps row j h =
    let next : get_or ps j 0 ≡ first + suc j = row (suc j) (omega arith) in
    omega arith

apart : (x first : ℕ) (places : List ℕ) → x < first → InRow first places → AllByRecursion (λ (y : ℕ). eqb x y ≡ false) places
apart x first [] less row = tt
apart x first (p ∷ ps) less row =
    let here : p ≡ first + 0 = row 0 (omega arith) in
    (ne_eqb x p (λ (e : x ≡ p). omega arith), apart x (first + 1) ps (omega arith) (in-tail first p ps row))

distinct : (first : ℕ) (places : List ℕ) → InRow first places → AreDistinct places
unfolding IsDistinct
distinct first [] row = tt
distinct first (p ∷ ps) row =
    let here : p ≡ first + 0 = row 0 (omega arith) in
    (apart p (first + 1) ps (omega arith) (in-tail first p ps row), distinct (first + 1) ps (in-tail first p ps row))

below : (n first : ℕ) (places : List ℕ) → first + length places ≤ n → InRow first places → AllByRecursion (λ (p : ℕ). p < n) places
below n first [] most row = tt
below n first (p ∷ ps) most row =
    let here : p ≡ first + 0 = row 0 (omega arith) in
    (omega arith, below n (first + 1) ps (omega arith) (in-tail first p ps row))

-- the places that the loop has made
in-row : (first k : ℕ) (items places : List ℕ) → places ≡ items → length items ≡ k → ((j : ℕ) → j < k → get_or items j 0 ≡ first + j) → InRow first places
in-row first k items places same count placed = subst (InRow first) (sym same) (λ (j : ℕ) (h : j < length items). placed j (omega arith))

pub plan-requires-clause-distinct : goal.plan-requires-clause-distinct
plan-requires-clause-distinct g c = distinct c.args.first _ (in-row _ _ _ _ c.as_slice.ensures.value c.loop-k.invariant.count c.loop-k.invariant.placed)

pub plan-requires-clause-places : goal.plan-requires-clause-places
plan-requires-clause-places g c =
    let row = in-row c.args.first _ _ _ c.as_slice.ensures.value c.loop-k.invariant.count c.loop-k.invariant.placed in
    let same : length c.as_slice.result.now ≡ length c.loop-k.places.items = ap length c.as_slice.ensures.value in
    let count = c.loop-k.invariant.count in
    let end = c.loop-k.auto.k-end in
    subst (λ (n : ℕ). AllByRecursion (λ (p : ℕ). p < n) c.as_slice.result.now) c.length_of-length.ensures.length (below _ c.args.first c.as_slice.result.now (omega arith) row)
