use Rattle.std.proofs.Common.{◌≡◌, ◌≤◌, ◌*◌, map, sum}
use Rattle.std.specs.List.{filter, range_with_len}
use Rattle.sa_call.specs.Told.{is_named}
use Rattle.sa_loop.specs.Runs.{shown}
use Rattle.sa_loop.specs.Takes.{weight}
use Rattle.sa_loop.proofs.taking.weights.Given as goal

abbrev pub invariant-loop-number : goal.invariant-loop-number
invariant-loop-number g l = record {
  weights : l.weights ≡ map (λ d. weight l.decls (shown (g.R.Rooms.holds l.rooms d)) l.call d) (filter (is_named l.decls l.call) (range_with_len 0 l.number));
  together : l.together ≡ sum l.weights;
  most : l.together ≤ 4296015872 * l.number;
}
