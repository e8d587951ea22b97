use Rattle.std.proofs.Common.{length, arith}
use Rattle.sa_arena.specs.Extents.{extent_for}
use Rattle.sa_arena.specs.Images.{extent_image}
use Rattle.sa_arena.proofs.ChangeLemmas.{lent_bytes, after_append}
use Rattle.sa_arena.proofs.ExtentLemmas.{prefix_size-some, cursor-live_and_dead}
use Rattle.sa_arena.proofs.HoldsLemmas.{opened, closed, same_extents, free_place}
use Rattle.sa_arena.proofs.arena.Arena.append.Goals as goal

pub push_reserved-requires : goal.push_reserved-requires
push_reserved-requires c =
    let h = opened c.self.invariant c.self.view_is in
    let is = h.cursor_is in
    let size = h.size_is in
    let f = free_place h (omega (arith, prefix_size-some)) in
    let n = c.self.inside.table.ok.0 in
    omega arith

pub overflow_add-self-2 : goal.overflow_add-self-2
overflow_add-self-2 c =
    let h = opened c.self.invariant c.self.view_is in
    let live = cursor-live_and_dead c.args.self.now.extents in
    let is = h.live_is in
    let ends = h.cursor_is in
    let size = h.size_is in
    omega arith

pub invariant_of-self : goal.invariant_of-self
invariant_of-self c =
    closed (after_append (opened c.self.invariant c.self.view_is) c.prefix_len.result c.args.text.now _ _ _ c.prefix_len.ensures c.requires.size c.requires.room
    (lent_bytes c.self.inside.bytes _ _ c.self.inside.cursor (extent_image (extent_for (length c.args.text.now) c.args.text.now)) c.deref_mut.ensures.value c.deref_mut.ensures.len c.write_extent.auto.bytes c.write_extent.ensures) c.push_reserved.ensures.items c.push_reserved.ensures.capacity)

pub returns-clause-extents : goal.returns-clause-extents
returns-clause-extents c =
    same_extents (after_append (opened c.self.invariant c.self.view_is) c.prefix_len.result c.args.text.now _ _ _ c.prefix_len.ensures c.requires.size c.requires.room
    (lent_bytes c.self.inside.bytes _ _ c.self.inside.cursor (extent_image (extent_for (length c.args.text.now) c.args.text.now)) c.deref_mut.ensures.value c.deref_mut.ensures.len c.write_extent.auto.bytes c.write_extent.ensures) c.push_reserved.ensures.items c.push_reserved.ensures.capacity)
