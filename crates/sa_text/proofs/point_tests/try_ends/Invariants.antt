use Rattle.std.proofs.Common.{IsUtf8}
use Rattle.sa_text.proofs.point_tests.try_ends.Given as goal

abbrev pub invariant-loop-point : goal.invariant-loop-point
invariant-loop-point g l = IsUtf8 l.rest

abbrev pub invariant-loop-point-2 : goal.invariant-loop-point-2
invariant-loop-point-2 g l = IsUtf8 l.rest
