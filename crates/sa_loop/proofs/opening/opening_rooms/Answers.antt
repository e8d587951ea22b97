use Rattle.std.proofs.Common.{◌≡◌, ◌∷◌, [], ◌++◌, map, sym, ap, ◌∙◌, arith}
use Rattle.std.specs.List.{range_with_len}
use Rattle.std.proofs.lemmas.List.{map-append}
use Rattle.std.proofs.lemmas.List.FromFn.{map-range_with_len_more}
use Rattle.sa_loop.specs.Runs.{opening_holds, room_holds}
use Rattle.sa_loop.proofs.opening.opening_rooms.Goals as goal

pub loop-home-preserved : goal.loop-home-preserved
loop-home-preserved c =
    let d = c.args.decls.now in
    let k = c.loop-home.home in
    let room = c.in_ok-opening_room.field-0 in
    ap (map room_holds) c.in_ok-push.ensures.items
    ∙ map-append room_holds c.loop-home.rooms.items (room ∷ [])
    ∙ ap (λ ls. ls ++ room_holds room ∷ []) c.loop-home.invariant
    ∙ ap (λ l. map (opening_holds d) (range_with_len 0 k) ++ l ∷ []) c.in_ok-opening_room.ensures
    ∙ sym (map-range_with_len_more (opening_holds d) 0 k k (omega arith))
