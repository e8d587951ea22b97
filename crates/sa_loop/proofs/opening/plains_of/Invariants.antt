use Rattle.std.proofs.Common.{◌≡◌, map, take, false}
use Rattle.std.specs.List.{filter}
use Rattle.sa_call.specs.Told.{is_among}
use Rattle.sa_loop.specs.States.{plain_shape}
use Rattle.sa_loop.proofs.opening.plains_of.Given as goal

abbrev pub invariant-loop-array : goal.invariant-loop-array
invariant-loop-array l = l.plains.items ≡ map plain_shape (filter (is_among false l.home) (take l.array-index l.array-items))
