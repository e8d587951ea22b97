use Rattle.std.proofs.Common.{◌+◌, ◌-◌, replicate, arith}
use Rattle.sa_arena.proofs.ChangeLemmas.{lent_bytes, after_kill}
use Rattle.sa_arena.proofs.HoldsLemmas.{opened, closed, same_extents, found}
use Rattle.sa_arena.proofs.arena.Arena.kill.Goals as goal

pub overflow_sub-size : goal.overflow_sub-size
overflow_sub-size c =
    let f = found (opened c.self.invariant c.self.view_is) c.args.at _ c.requires c.number_of-number.ensures in
    omega arith

pub overflow_add-size : goal.overflow_add-size
overflow_add-size c =
    let f = found (opened c.self.invariant c.self.view_is) c.args.at _ c.requires c.number_of-number.ensures in
    omega arith

pub write_zeros-requires : goal.write_zeros-requires
write_zeros-requires c =
    let f = found (opened c.self.invariant c.self.view_is) c.args.at _ c.requires c.number_of-number.ensures in
    omega arith

pub overflow_sub-self : goal.overflow_sub-self
overflow_sub-self c =
    let f = found (opened c.self.invariant c.self.view_is) c.args.at _ c.requires c.number_of-number.ensures in
    omega arith

pub invariant_of-self : goal.invariant_of-self
invariant_of-self c =
    let h = opened c.self.invariant c.self.view_is in
    let f = found h c.args.at _ c.requires c.number_of-number.ensures in
    closed (after_kill h f _ _ _ _ _ _ _ c.start-start.ensures c.capacity-capacity.ensures c.count_without-count.ensures.count c.count_without-count.ensures.trimmed
    (lent_bytes c.self.inside.bytes _ _ c.start-start.result (replicate (c.args.at - c.start-start.result + c.capacity-capacity.result) 0) c.deref_mut.ensures.value c.deref_mut.ensures.len c.write_zeros.auto.bytes c.write_zeros.ensures)
    c.truncate.ensures.items c.start-cursor.ensures c.truncate.ensures.capacity)

pub returns-clause-extents : goal.returns-clause-extents
returns-clause-extents c =
    let h = opened c.self.invariant c.self.view_is in
    let f = found h c.args.at _ c.requires c.number_of-number.ensures in
    same_extents (after_kill h f _ _ _ _ _ _ _ c.start-start.ensures c.capacity-capacity.ensures c.count_without-count.ensures.count c.count_without-count.ensures.trimmed
    (lent_bytes c.self.inside.bytes _ _ c.start-start.result (replicate (c.args.at - c.start-start.result + c.capacity-capacity.result) 0) c.deref_mut.ensures.value c.deref_mut.ensures.len c.write_zeros.auto.bytes c.write_zeros.ensures)
    c.truncate.ensures.items c.start-cursor.ensures c.truncate.ensures.capacity)
