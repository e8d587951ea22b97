-- One more place.
use Rattle.std.proofs.Common.{◌≡◌, ◌+◌, ◌∷◌, [], ◌++◌, map, arith}
use Rattle.std.specs.List.{range_with_len}
use Rattle.std.proofs.lemmas.List.FromFn.{map-range_with_len_more}
use Rattle.sa_view.specs.Views.{place_at}
use Rattle.sa_loop.proofs.places.places.Goals as goal

pub loop-k-preserved : goal.loop-k-preserved
loop-k-preserved c =
    let v = c.args.view.now in
    let k = c.loop-k.k in
    let more : map (place_at v) (range_with_len 0 (k + 1)) ≡ map (place_at v) (range_with_len 0 k) ++ place_at v k ∷ [] = map-range_with_len_more (place_at v) 0 k k (omega arith) in
    cc (more, c.in_ok-push.ensures.items, c.loop-k.invariant, c.place.ensures)
