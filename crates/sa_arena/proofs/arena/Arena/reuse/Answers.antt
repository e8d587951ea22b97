use Rattle.std.proofs.Common.{arith}
use Rattle.sa_arena.specs.Images.{padded}
use Rattle.sa_arena.proofs.ChangeLemmas.{lent_bytes, after_reuse}
use Rattle.sa_arena.proofs.HoldsLemmas.{opened, closed, same_extents, found}
use Rattle.sa_arena.proofs.arena.Arena.reuse.Goals as goal

pub write_padded-requires-clause-within : goal.write_padded-requires-clause-within
write_padded-requires-clause-within c =
    let f = found (opened c.self.invariant c.self.view_is) c.args.at _ c.requires.live c.number_of-number.ensures in
    omega arith

pub invariant_of-self : goal.invariant_of-self
invariant_of-self c =
    let h = opened c.self.invariant c.self.view_is in
    let f = found h c.args.at _ c.requires.live c.number_of-number.ensures in
    closed (after_reuse h f _ c.args.text.now _ c.capacity-room.ensures c.requires.size.1
    (lent_bytes c.self.inside.bytes _ _ c.args.at (padded c.capacity-room.result c.args.text.now) c.deref_mut.ensures.value c.deref_mut.ensures.len c.write_padded.auto.bytes c.write_padded.ensures))

pub returns-clause-extents : goal.returns-clause-extents
returns-clause-extents c =
    let h = opened c.self.invariant c.self.view_is in
    let f = found h c.args.at _ c.requires.live c.number_of-number.ensures in
    same_extents (after_reuse h f _ c.args.text.now _ c.capacity-room.ensures c.requires.size.1
    (lent_bytes c.self.inside.bytes _ _ c.args.at (padded c.capacity-room.result c.args.text.now) c.deref_mut.ensures.value c.deref_mut.ensures.len c.write_padded.auto.bytes c.write_padded.ensures))
