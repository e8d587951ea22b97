use Rattle.std.proofs.Common.{◌≡◌, ◌≤◌, ◌<◌, ◌+◌, ◌++◌, ◌∷◌, [], ◌&&◌, nat_lt, ℕ, List, All, length, sym, ap, ◌∙◌, subst, arith, length-append}
use Rattle.std.proofs.lemmas.List.Elements.{All-push, All-weaker}
use Rattle.sa_journal.specs.Parties.{among}
use Rattle.sa_hall.proofs.LeastLemmas.{all-below, from-least, full-below, same-below, more-below, below-one, count_below}
use Rattle.sa_hall.proofs.locking.plan_locks.Goals as goal

pub returns-in_default : goal.returns-in_default
returns-in_default c =
    let none = sym c.least_from.ensures ∙ c.in_default.is in
    record { same = λ d. c.loop.invariant.same d ∙ same-below d c.loop.bound c.args.numbers.now (all-below c.loop.bound c.args.numbers.now none d) }

pub add-requires-clause-above : goal.add-requires-clause-above
add-requires-clause-above c =
    let is = from-least c.loop.bound c.args.numbers.now c.in-Some.number (sym c.least_from.ensures ∙ c.in-Some.is) in
    let from = is.from in
    All-weaker (λ n. n < c.loop.bound) (λ n. n < c.in-Some.number) (λ n h. omega arith) c.loop.locks c.loop.invariant.below

pub loop-preserved : goal.loop-preserved
loop-preserved c =
    let ns = c.args.numbers.now in
    let m = c.in-Some.number in
    let is = from-least c.loop.bound ns m (sym c.least_from.ensures ∙ c.in-Some.is) in
    let from = is.from in
    let next : c.from-bound.result + 1 ≡ m + 1 = ap (λ n. n + 1) c.from-bound.ensures in
    let count = ap (λ (xs : List ℕ). length xs) c.add.ensures in
    let one = length-append c.loop.locks (m ∷ []) in
    let below : All (λ n. n < m + 1) (c.loop.locks ++ m ∷ []) = All-push (λ n. n < m + 1) c.loop.locks m (All-weaker (λ n. n < c.loop.bound) (λ n. n < m + 1) (λ n h. omega arith) c.loop.locks c.loop.invariant.below) (omega arith) in
    let done : c.loop.counter + 1 ≤ count_below (m + 1) ns = let more = below-one c.loop.bound m ns from is.among_them in omega (arith, c.loop.invariant.done, more) in
    record {
      few = omega (arith, count, one, c.loop.invariant.few);
      below = subst (λ (x : ℕ × List ℕ). All (λ n. n < x.0) x.1) (λ i. (sym next i, sym c.add.ensures i)) below;
      same = λ d. ap (among d) c.add.ensures ∙ more-below c.loop.bound m ns c.loop.locks is c.loop.invariant.same d ∙ ap (λ n. among d ns && nat_lt d n) (sym next);
      done = subst (λ n. c.loop.counter + 1 ≤ count_below n ns) (sym next) done;
    }

pub returns : goal.returns
returns c =
    record { same = λ d. c.loop.invariant.same d ∙ same-below d c.loop.bound c.args.numbers.now (full-below c.loop.bound c.args.numbers.now (omega (arith, c.loop.invariant.done, c.loop-test.false)) d) }
