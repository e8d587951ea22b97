use Rattle.std.proofs.Common.{List, [], ◌∷◌}
use Rattle.std.specs.List.{AllByRecursion}
use Rattle.sa_crew.proofs.tests.added.Goals as goal

any : {A : Type 0} (R : A → Type 0) → ((x : A) → R x) → (xs : List A) → AllByRecursion R xs
any R all [] = tt
any R all (x ∷ xs) = (all x, any R all xs)

pub work_all-requires-clause-ready : goal.work_all-requires-clause-ready
work_all-requires-clause-ready g c κs within = any _ (λ x. tt) c.args.things.items
