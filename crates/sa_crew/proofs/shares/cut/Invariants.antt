use Rattle.std.proofs.Common.{◌≡◌, ◌++◌}
use Rattle.sa_crew.specs.Shares.{firsts, others, turn_after}
use Rattle.sa_crew.proofs.shares.cut.Given as goal

abbrev pub invariant-loop-thing : goal.invariant-loop-thing
invariant-loop-thing g l = record {
  split : l.yielded ++ l.thing-iterator.rest.items ≡ l.fn.things.items;
  mine : l.mine.items ≡ firsts l.skip 0 l.yielded;
  rest : l.rest.items ≡ others l.skip 0 l.yielded;
  turn : l.turn ≡ turn_after l.skip 0 l.yielded;
}
