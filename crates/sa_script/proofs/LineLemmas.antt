-- What is declared after a line whose statement has no fault, and after the last line.
use Rattle.std.proofs.Common.{◌≡◌, ℕ, ◌+◌, List, ◌∷◌, Option, Some, None, Result, Ok, Err, IfOk, refl, ap, subst, ◌∙◌}
use Rattle.sa_script.specs.declared.cause.Cause.{Cause}
use Rattle.sa_script.specs.declared.context.Context.{Context}
use Rattle.sa_script.specs.declared.statement.Statement.{Statement}
use Rattle.sa_script.specs.Faults.{fault_of}
use Rattle.sa_script.specs.Scripts.{line_after, lines_after, statement_after, context_after, unless_fault}
use Rattle.sa_script.specs.SoundContexts.{IsSoundContext}
use Rattle.sa_script.specs.Spelled.{IsSpelled}
use Rattle.sa_script.proofs.SoundLemmas.{sound_after}

-- what follows a statement that was taken is sound, where it has no fault
pub taken-sound : {E : Type 0} (c d : Context) (s : Statement) (r : Result (Option Cause) E) → IsSoundContext c → IsSpelled s → IfOk r (λ fault. statement_after c (Some s) ≡ unless_fault d fault) → IfOk r (λ fault. fault ≡ None → IsSoundContext d)
taken-sound c d s (Err e) sound spelled told = tt
taken-sound c d s (Ok fault) sound spelled told = λ none. go (fault_of c s) refl (told ∙ ap (unless_fault d) none)
  where
    go : (f : Option Cause) → fault_of c s ≡ f → unless_fault (context_after c s) f ≡ Ok d → IsSoundContext d
    go None is e = let same : context_after c s ≡ d = cc in subst IsSoundContext same (sound_after c s sound spelled is)
    go (Some fault) is e = cc

-- the lines after one that has no fault, and the first one that has
pub lines_after_one : (c d : Context) (number : ℕ) (l : List ℕ) (ls : List (List ℕ)) → line_after c l ≡ Ok d → lines_after c number (l ∷ ls) ≡ lines_after d (number + 1) ls
lines_after_one c d number l ls e = rw e refl

pub lines_after_faulty : (c : Context) (number : ℕ) (l : List ℕ) (ls : List (List ℕ)) (fault : Cause) → line_after c l ≡ Err fault → lines_after c number (l ∷ ls) ≡ Err (fault, number + 1)
lines_after_faulty c number l ls fault e = rw e refl
