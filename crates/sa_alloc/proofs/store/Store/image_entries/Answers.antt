use Rattle.std.proofs.Common.{◌≡◌, ◌+◌, arith}
use Rattle.std.proofs.lemmas.List.FromFn.{map-range_with_len_more}
use Rattle.sa_alloc.specs.Layouts.{entry_image}
use Rattle.sa_alloc.proofs.store.Store.image_entries.Goals as goal

pub loop-entry-preserved : goal.loop-entry-preserved
loop-entry-preserved c =
    let k = c.loop-entry.entry in
    let more = map-range_with_len_more (entry_image c.args.self.now.contents.layout) 0 k k (omega arith) in
    let image = c.image_at.ensures in
    let kept = c.loop-entry.invariant in
    grind (arith, more)
