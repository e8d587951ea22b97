use Rattle.std.proofs.Common.{arith}
use Rattle.sa_arena.proofs.HoldsLemmas.{opened, length_is, halves-low, halves-high}
use Rattle.sa_arena.proofs.arena.Arena.number_of.Goals as goal

pub halves-preserved-then-index-at : goal.halves-preserved-then-index-at
halves-preserved-then-index-at c =
    let h = opened c.self.invariant c.self.view_is in
    let n = length_is h in
    record {
      from = halves-low h _ c.args.at c.index.result.now (omega arith) c.index.ensures (omega arith);
      below = omega arith;
      within = omega arith;
    }

pub halves-preserved : goal.halves-preserved
halves-preserved c =
    let h = opened c.self.invariant c.self.view_is in
    let n = length_is h in
    record {
      from = omega arith;
      below = halves-high h _ c.args.at c.index.result.now (omega arith) c.index.ensures (omega arith) c.requires;
      within = omega arith;
    }
