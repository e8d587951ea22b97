use Rattle.std.specs.List.{AllByRecursion}
use Rattle.sa_text.specs.Values.{IsTextValue}
use Rattle.sa_loop.proofs.tests.items.Given as goal

abbrev pub invariant-loop-text : goal.invariant-loop-text
invariant-loop-text l = record {
  texts : AllByRecursion IsTextValue l.values;
}
