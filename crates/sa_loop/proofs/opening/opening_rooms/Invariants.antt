use Rattle.std.proofs.Common.{◌≡◌, map}
use Rattle.std.specs.List.{range_with_len}
use Rattle.sa_loop.specs.Runs.{opening_holds, room_holds}
use Rattle.sa_loop.proofs.opening.opening_rooms.Given as goal

abbrev pub invariant-loop-home : goal.invariant-loop-home
invariant-loop-home l = map room_holds l.rooms.items ≡ map (opening_holds l.decls) (range_with_len 0 l.home)
