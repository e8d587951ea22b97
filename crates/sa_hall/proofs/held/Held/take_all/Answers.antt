use Rattle.std.proofs.Common.{ℕ, List, ◌<◌, All, length, get_or, sym, subst, ap, arith}
use Rattle.std.proofs.lemmas.List.{length-take-le}
use Rattle.sa_hall.proofs.HoldLemmas.{rising-below}
use Rattle.sa_hall.proofs.held.Held.take_all.Goals as goal

pub take-requires-clause-above : goal.take-requires-clause-above
take-requires-clause-above g c κs within =
    subst (λ (ns : List ℕ). All (λ n. n < get_or c.args.locks.now c.loop-number.number-index 0) ns) (sym c.loop-number.invariant.numbers) (rising-below c.args.locks.now c.loop-number.number-index c.requires.rising c.loop-number-test.true)

pub take-requires-clause-few : goal.take-requires-clause-few
take-requires-clause-few g c κs within =
    let same = ap (λ (ns : List ℕ). length ns) c.loop-number.invariant.numbers in
    let count = length-take-le c.loop-number.number-index c.args.locks.now c.loop-number.auto.number-index-end in
    omega (arith, same, count, c.requires.few, c.loop-number-test.true)
