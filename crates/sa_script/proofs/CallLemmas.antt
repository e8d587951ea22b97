-- One more call of the last task.
use Rattle.std.proofs.Common.{◌≡◌, List, [], ◌∷◌, ◌++◌, refl, ap}
use Rattle.sa_call.specs.declared.call.Call.{Call}
use Rattle.sa_script.specs.Contexts.{with_call}

pub with_call_last : (tasks : List (List Call)) (calls : List Call) (call : Call) → with_call (tasks ++ calls ∷ []) call ≡ tasks ++ (calls ++ call ∷ []) ∷ []
with_call_last [] calls call = refl
with_call_last (t ∷ []) calls call = refl
with_call_last (t ∷ u ∷ ts) calls call = ap (λ ts. t ∷ ts) (with_call_last (u ∷ ts) calls call)
