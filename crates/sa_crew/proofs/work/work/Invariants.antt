use Rattle.std.proofs.Common.{◌≡◌, ◌++◌}
use Rattle.std.specs.List.{AllByRecursion, AllZip}
use Rattle.sa_crew.proofs.work.work.Given as goal

abbrev pub invariant-loop-thing : goal.invariant-loop-thing
invariant-loop-thing g l = record {
  split : l.yielded ++ l.thing-iterator.rest.items ≡ l.fn.things.items;
  ready : AllByRecursion (g.J.Job.ready l.job) l.thing-iterator.rest.items;
  done : AllZip (g.J.Job.done l.job) l.yielded l.all.items;
}
