use Rattle.std.proofs.Common.{◌≡◌}
use Rattle.std.specs.List.{filter, range_with_len}
use Rattle.sa_call.specs.Told.{is_named}
use Rattle.sa_loop.proofs.call_homes.homes.Given as goal

abbrev pub invariant-loop-number : goal.invariant-loop-number
invariant-loop-number l = l.homes ≡ filter (is_named l.decls l.call) (range_with_len 0 l.number)
