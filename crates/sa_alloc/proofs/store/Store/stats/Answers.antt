use Rattle.std.proofs.Common.{arith}
use Rattle.sa_alloc.proofs.ReadLemmas.{live-le-cursor, stats-read, store-sound}
use Rattle.sa_alloc.proofs.store.Store.stats.Goals as goal

pub overflow_sub-result : goal.overflow_sub-result
overflow_sub-result c =
    let le = live-le-cursor c.self.inside.arena.extents in
    let cursor = c.cursor-cursor.ensures in
    let live = c.live-live.ensures in
    omega arith

pub returns-clause-stats : goal.returns-clause-stats
returns-clause-stats c = stats-read c.self.inside _ c.self.view_is c.self.invariant _ _ _ c.cursor-cursor.ensures c.live-live.ensures c.count.ensures

pub returns-clause-sound : goal.returns-clause-sound
returns-clause-sound c = store-sound c.self.inside _ c.self.view_is c.self.invariant
