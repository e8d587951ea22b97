use Rattle.std.specs.Vec.Iter.{into_iter_items}
use Rattle.sa_alloc.specs.Layouts.{put_all}
use Rattle.sa_alloc.specs.Stores.{puts_of}
use Rattle.sa_alloc.proofs.WriteLemmas.{IsWriting}
use Rattle.sa_alloc.proofs.store.Store.write.Given as goal

abbrev pub invariant-loop-place : goal.invariant-loop-place
invariant-loop-place l = record {
  can : (goal.iterator-loop-place).can_next l.place-iterator;
  finite : (goal.iterator-loop-place).is_finite l.place-iterator;
  writing : IsWriting (put_all l.fn.self.contents.layout (puts_of l.fn.self.contents.layout.lengths l.fn.plan)) l.fn.self.room.size l.self l.first (into_iter_items l.place-iterator);
}
