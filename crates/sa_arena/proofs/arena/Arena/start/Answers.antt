use Rattle.std.proofs.Common.{arith, ap}
use Rattle.sa_arena.specs.Extents.{prefix_size}
use Rattle.sa_arena.proofs.HoldsLemmas.{opened, length_is, start_is}
use Rattle.sa_arena.proofs.arena.Arena.start.Goals as goal

pub overflow_sub-result : goal.overflow_sub-result
overflow_sub-result c =
    let h = opened c.self.invariant c.self.view_is in
    let n = length_is h in
    let p = ap prefix_size c.capacity.ensures in
    let s = start_is h c.args.number c.index.result.now (omega arith) c.index.ensures in
    omega arith

pub returns : goal.returns
returns c =
    let h = opened c.self.invariant c.self.view_is in
    let n = length_is h in
    let p = ap prefix_size c.capacity.ensures in
    let s = start_is h c.args.number c.index.result.now (omega arith) c.index.ensures in
    omega arith
