use Rattle.std.proofs.Common.{◌≡◌, map, take, true}
use Rattle.std.specs.List.{filter}
use Rattle.sa_call.specs.declared.decls.ArrayDecl.{ArrayDecl}
use Rattle.sa_call.specs.Told.{is_among}
use Rattle.sa_loop.proofs.opening.lengths_of.Given as goal

abbrev pub invariant-loop-array : goal.invariant-loop-array
invariant-loop-array l = l.lengths.items ≡ map (λ (a : ArrayDecl). a.len) (filter (is_among true l.home) (take l.array-index l.array-items))
