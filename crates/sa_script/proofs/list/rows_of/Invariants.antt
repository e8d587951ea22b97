use Rattle.std.proofs.Common.{◌≡◌, ◌++◌}
use Rattle.std.specs.List.{AllByRecursion}
use Rattle.sa_script.specs.FixedTexts.{IsRow}
use Rattle.sa_script.proofs.list.rows_of.Given as goal

abbrev pub invariant-loop-text : goal.invariant-loop-text
invariant-loop-text g l = record {
  split : l.rows ++ l.text-iterator.rest.items ≡ l.fn.texts;
  narrow : AllByRecursion IsRow l.text-iterator.rest.items;
}
