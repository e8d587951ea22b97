use Rattle.sa_script.specs.Resolving.{AreTaken}
use Rattle.sa_script.proofs.context.Context.resolved_terms.Given as goal

abbrev pub invariant-terms : goal.invariant-terms
invariant-terms l = AreTaken l.self l.fn.op l.yielded l.resolved
