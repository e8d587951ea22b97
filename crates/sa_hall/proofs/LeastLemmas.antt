-- The least of numbers that are not below a bound, and the numbers in rising order.
use Rattle.std.proofs.Common.{◌≡◌, ◌<◌, ◌≤◌, ◌+◌, ◌==◌, ◌&&◌, ◌||◌, nat_lt, nat_le, ℕ, Bool, true, false, List, [], ◌∷◌, ◌++◌, length, Some, None, ◌⊎◌, inl, inr, refl, sym, ap, ◌∙◌, subst, arith, if◌then◌else◌}
use Rattle.std.proofs.lemmas.Bool.{cases_lt, lt-ltb, le-ltb, ltb-true, ltb-false, leb-true, leb-false}
use Rattle.std.proofs.lemmas.Bool.Decides.{nat_tests}
use Rattle.sa_journal.specs.Parties.{among}
use Rattle.sa_hall.specs.Least.{least_in, least_from}
use Rattle.sa_hall.proofs.HoldLemmas.{same_number, itself, among-end, some-same}

-- how many numbers are below a bound
abbrev pub count_below : ℕ → List ℕ → ℕ
count_below bound [] = 0
count_below bound (n ∷ ns) = (if nat_lt n bound then 1 else 0) + count_below bound ns

-- a number that is among some, first or later
first_or_later : (d x : ℕ) (xs : List ℕ) → among d (x ∷ xs) ≡ true → (x ≡ d) ⊎ (among d xs ≡ true)
first_or_later d x xs e = go (x == d) refl
  where
    go : (b : Bool) → (x == d) ≡ b → (x ≡ d) ⊎ (among d xs ≡ true)
    go true same = inl (same_number x d same)
    go false apart = inr (sym (ap (λ b. b || among d xs) apart) ∙ e)

later-among : (d x : ℕ) (xs : List ℕ) → among d xs ≡ true → among d (x ∷ xs) ≡ true
later-among d x xs e = go (x == d)
  where
    go : (b : Bool) → (b || among d xs) ≡ true
    go true = refl
    go false = e

first-among : (x : ℕ) (xs : List ℕ) → among x (x ∷ xs) ≡ true
first-among x xs = ap (λ b. b || among x xs) (itself x)

-- what is found is never lost

stays : (bound m n : ℕ) (ns : List ℕ) (b c : Bool) → ((k : ℕ) → least_in bound (Some k) ns ≡ None → ⊥) → least_in bound (if b then Some m else if c then Some m else Some n) ns ≡ None → ⊥
stays bound m n ns true c rest e = rest m e
stays bound m n ns false true rest e = rest m e
stays bound m n ns false false rest e = rest n e

some-stays : (bound m : ℕ) (ns : List ℕ) → least_in bound (Some m) ns ≡ None → ⊥
some-stays bound m [] e = cc
some-stays bound m (n ∷ ns) e = stays bound m n ns (nat_lt n bound) (nat_le m n) (λ k. some-stays bound k ns) e

-- where nothing is found all numbers are below the bound
pub all-below : (bound : ℕ) (ns : List ℕ) → least_from bound ns ≡ None → (d : ℕ) → among d ns ≡ true → d < bound
all-below bound [] e d named = absurd (cc named)
all-below bound (n ∷ ns) e d named = go (nat_lt n bound) refl e (λ none. all-below bound ns none d)
  where
    go : (b : Bool) → nat_lt n bound ≡ b → least_in bound (if b then None else Some n) ns ≡ None → (least_from bound ns ≡ None → among d ns ≡ true → d < bound) → d < bound
    go true low none rest =
        elim (first_or_later d n ns named) [
          | inl same ↦ subst (λ k. k < bound) same (ltb-true n bound low)
          | inr later ↦ rest none later
        ]
    go false high none rest = absurd (some-stays bound n ns none)

-- what is found is the least of the numbers that are not below the bound
pub record IsLeast (bound : ℕ) (ns : List ℕ) (m : ℕ) : Type 0 where
  pub from : bound ≤ m
  pub among_them : among m ns ≡ true
  pub least : (d : ℕ) → among d ns ≡ true → bound ≤ d → m ≤ d

record IsNearer (bound a : ℕ) (ns : List ℕ) (m : ℕ) : Type 0 where
  pub from : bound ≤ m
  pub most : m ≤ a
  pub found : (m ≡ a) ⊎ (among m ns ≡ true)
  pub least : (d : ℕ) → among d ns ≡ true → bound ≤ d → m ≤ d

nearer-here : (bound a n m : ℕ) (ns : List ℕ) → (bound ≤ n → a ≤ n) → IsNearer bound a ns m → IsNearer bound a (n ∷ ns) m
nearer-here bound a n m ns above is = record {
  from = is.from;
  most = is.most;
  found = elim is.found [ inl e ↦ inl e | inr later ↦ inr (later-among m n ns later) ];
  least = λ d named high.
      elim (first_or_later d n ns named) [
        | inl same ↦ let low : a ≤ n = above (subst (λ k. bound ≤ k) (sym same) high) in let most = is.most in omega (arith, same)
        | inr later ↦ is.least d later high
      ];
}

nearer-first : (bound a n m : ℕ) (ns : List ℕ) → n < a → IsNearer bound n ns m → IsNearer bound a (n ∷ ns) m
nearer-first bound a n m ns below is = record {
  from = is.from;
  most = let most = is.most in omega arith;
  found = elim is.found [ inl e ↦ inr (subst (λ k. among k (n ∷ ns) ≡ true) (sym e) (first-among n ns)) | inr later ↦ inr (later-among m n ns later) ];
  least = λ d named high. elim (first_or_later d n ns named) [ inl same ↦ let most = is.most in omega (arith, same) | inr later ↦ is.least d later high ];
}

some-least : (bound a : ℕ) (ns : List ℕ) (m : ℕ) → bound ≤ a → least_in bound (Some a) ns ≡ Some m → IsNearer bound a ns m
some-least bound a [] m from e =
    let same = some-same a m e in
    record { from = omega (arith, same); most = omega (arith, same); found = inl (sym same); least = λ d named high. absurd (cc named) }
some-least bound a (n ∷ ns) m from e = go (nat_lt n bound) (nat_le a n) refl refl e (λ k. some-least bound k ns m)
  where
    go : (b c : Bool) → nat_lt n bound ≡ b → nat_le a n ≡ c → least_in bound (if b then Some a else if c then Some a else Some n) ns ≡ Some m → ((k : ℕ) → bound ≤ k → least_in bound (Some k) ns ≡ Some m → IsNearer bound k ns m) → IsNearer bound a (n ∷ ns) m
    go true c low _ is rest = let below : n < bound = ltb-true n bound low in nearer-here bound a n m ns (λ h. absurd (omega arith)) (rest a from is)
    go false true high kept is rest = let above : a ≤ n = leb-true a n kept in nearer-here bound a n m ns (λ h. above) (rest a from is)
    go false false high better is rest = nearer-first bound a n m ns (leb-false a n better) (rest n (ltb-false n bound high) is)

pub from-least : (bound : ℕ) (ns : List ℕ) (m : ℕ) → least_from bound ns ≡ Some m → IsLeast bound ns m
from-least bound [] m e = absurd (cc e)
from-least bound (n ∷ ns) m e = go (nat_lt n bound) refl e (from-least bound ns m)
  where
    go : (b : Bool) → nat_lt n bound ≡ b → least_in bound (if b then None else Some n) ns ≡ Some m → (least_from bound ns ≡ Some m → IsLeast bound ns m) → IsLeast bound (n ∷ ns) m
    go true low is rest =
        let tail = rest is in
        let below : n < bound = ltb-true n bound low in
        record {
          from = tail.from;
          among_them = later-among m n ns tail.among_them;
          least = λ d named high. elim (first_or_later d n ns named) [ inl same ↦ absurd (omega (arith, same)) | inr later ↦ tail.least d later high ];
        }
    go false high is rest =
        let near = some-least bound n ns m (ltb-false n bound high) is in
        record {
          from = near.from;
          among_them = elim near.found [ inl e ↦ subst (λ k. among k (n ∷ ns) ≡ true) (sym e) (first-among n ns) | inr later ↦ later-among m n ns later ];
          least = λ d named up. elim (first_or_later d n ns named) [ inl same ↦ let most = near.most in omega (arith, same) | inr later ↦ near.least d later up ];
        }

-- how many are below, where the bound is past what was found

pub below-more : (bound m : ℕ) (ns : List ℕ) → bound ≤ m → count_below bound ns ≤ count_below (m + 1) ns
below-more bound m [] from = omega arith
below-more bound m (n ∷ ns) from =
    let rest = below-more bound m ns from in
    elim (cases_lt n bound) [
      | inl low ↦ rw (lt-ltb n bound low, lt-ltb n (m + 1) (omega arith)) (omega arith)
      | inr high ↦ rw (le-ltb n bound high) (omega arith)
    ]

pub below-one : (bound m : ℕ) (ns : List ℕ) → bound ≤ m → among m ns ≡ true → count_below bound ns + 1 ≤ count_below (m + 1) ns
below-one bound m [] from named = absurd (cc named)
below-one bound m (n ∷ ns) from named =
    elim (first_or_later m n ns named) [
      | inl same ↦ let rest = below-more bound m ns from in rw (le-ltb n bound (omega (arith, same)), lt-ltb n (m + 1) (omega (arith, same))) (omega arith)
      | inr later ↦
          let rest = below-one bound m ns from later in
          elim (cases_lt n bound) [
            | inl low ↦ rw (lt-ltb n bound low, lt-ltb n (m + 1) (omega arith)) (omega arith)
            | inr high ↦ rw (le-ltb n bound high) (omega arith)
          ]
    ]

pub below-most : (bound : ℕ) (ns : List ℕ) → count_below bound ns ≤ length ns
below-most bound [] = omega arith
below-most bound (n ∷ ns) = let rest = below-most bound ns in elim (cases_lt n bound) [ inl low ↦ rw (lt-ltb n bound low) (omega arith) | inr high ↦ rw (le-ltb n bound high) (omega arith) ]

-- where as many are below as there are, all are
pub full-below : (bound : ℕ) (ns : List ℕ) → length ns ≤ count_below bound ns → (d : ℕ) → among d ns ≡ true → d < bound
full-below bound [] full d named = absurd (cc named)
full-below bound (n ∷ ns) full d named = go (nat_lt n bound) refl full (λ h. full-below bound ns h d)
  where
    go : (b : Bool) → nat_lt n bound ≡ b → length (n ∷ ns) ≤ (if b then 1 else 0) + count_below bound ns → (length ns ≤ count_below bound ns → among d ns ≡ true → d < bound) → d < bound
    go true low all rest =
        elim (first_or_later d n ns named) [
          | inl same ↦ subst (λ k. k < bound) same (ltb-true n bound low)
          | inr later ↦ rest (omega arith) later
        ]
    go false high all rest = let most = below-most bound ns in absurd (omega arith)

-- the numbers below a bound are all that are among them
pub same-below : (d bound : ℕ) (ns : List ℕ) → (among d ns ≡ true → d < bound) → (among d ns && nat_lt d bound) ≡ among d ns
same-below d bound ns below = go (among d ns) refl
  where
    go : (b : Bool) → among d ns ≡ b → (b && nat_lt d bound) ≡ b
    go true named = lt-ltb d bound (below named)
    go false not_named = refl

-- one more number, the least that is not below the bound
pub more-below : (bound m : ℕ) (ns locks : List ℕ) → IsLeast bound ns m → ((d : ℕ) → among d locks ≡ (among d ns && nat_lt d bound)) → (d : ℕ) → among d (locks ++ m ∷ []) ≡ (among d ns && nat_lt d (m + 1))
more-below bound m ns locks is same d = among-end d m locks ∙ ap (λ b. b || (m == d)) (same d) ∙ go (among d ns) refl
  where
    from : bound ≤ m
    from = is.from

    go : (b : Bool) → among d ns ≡ b → ((b && nat_lt d bound) || (m == d)) ≡ (b && nat_lt d (m + 1))
    go true named =
        elim (cases_lt d bound) [
          | inl low ↦ rw (lt-ltb d bound low, lt-ltb d (m + 1) (omega arith)) refl
          | inr high ↦ let up : m ≤ d = is.least d named high in rw (le-ltb d bound high) (last up)
        ]
      where
        last : m ≤ d → (m == d) ≡ nat_lt d (m + 1)
        last up = grind (arith, nat_tests)
    go false not_named = go-false (m == d) refl
      where
        go-false : (c : Bool) → (m == d) ≡ c → c ≡ false
        go-false true e = let no : among m ns ≡ false = ap (λ k. among k ns) (same_number m d e) ∙ not_named in absurd (cc (sym is.among_them ∙ no))
        go-false false e = refl
