use Rattle.std.proofs.Common.{◌≡◌}
use Rattle.sa_loop.proofs.tests.performed.Given as goal

abbrev pub invariant-loop-number : goal.invariant-loop-number
invariant-loop-number l = record {
  decls : l.run.decls.now ≡ l.decls;
}
