-- A new store has no extents, no keys and fresh entries alone.
use Rattle.std.proofs.Common.{ap, arith}
use Rattle.sa_arena.specs.Extents.{Region}
use Rattle.sa_outside.specs.Keyed.{Keyed}
use Rattle.sa_alloc.proofs.OpeningLemmas.{opened-store, opened-view}
use Rattle.sa_alloc.proofs.store.Store.new.Goals as goal

pub invariant_of-result : goal.invariant_of-result
invariant_of-result c =
    let all = c.loop-length-test.false in
    let within = c.loop-length.auto.length-index-end in
    let count = c.loop-length.invariant.count in
    let starts = c.loop-length.invariant.starts in
    opened-store c.args.lengths.now _ _ _ _ _ _ c.loop-length.length-index
    c.in_ok-from_slice.ensures.items (ap (λ (r : Region). r.extents) c.new.ensures) (ap (λ (k : Keyed). k.texts) c.new-2.ensures) c.in_ok-fresh_entries.ensures c.loop-length.invariant.total all
    (omega arith) (λ k h. starts k (omega arith)) c.requires

pub returns : goal.returns
returns c =
    opened-view c.args.lengths.now _ _ _ _ _ c.loop-length.length-index _ _
    c.in_ok-from_slice.ensures.items (ap (λ (r : Region). r.extents) c.new.ensures) (ap (λ (k : Keyed). k.texts) c.new-2.ensures) c.in_ok-fresh_entries.ensures c.loop-length.invariant.total c.loop-length-test.false
    (ap (λ (r : Region). r.size) c.new.ensures) (ap (λ (k : Keyed). k.spare) c.new-2.ensures)
