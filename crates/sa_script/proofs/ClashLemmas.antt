-- The descriptors of a call's views are declared.
use Rattle.std.proofs.Common.{◌<◌, ℕ, length}
use Rattle.std.specs.List.{All}
use Rattle.std.proofs.lemmas.List.Elements.{All-from_recursion}
use Rattle.sa_call.specs.declared.call.Call.{Call}
use Rattle.sa_call.specs.Calls.{homes_in}
use Rattle.sa_call.specs.Decls.{Declared, IsDeclared}
use Rattle.sa_call.proofs.RuleLemmas.{homes-declared}
use Rattle.sa_script.specs.Resolving.{IsMeant}

pub homes-known : (d : Declared) (call : Call) → IsDeclared d → IsMeant d call → All (λ (n : ℕ). n < length d.descrs) (homes_in d call)
homes-known d call declared meant = All-from_recursion (λ (n : ℕ). n < length d.descrs) (homes_in d call) (homes-declared d call.operands call.out declared meant.views meant.into)
