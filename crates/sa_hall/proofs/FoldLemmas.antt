-- One more line at the end of a chain.
use Rattle.std.proofs.Common.{◌≡◌, List, [], ◌∷◌, ◌++◌, refl, sym, ap, ◌∙◌, subst}
use Rattle.sa_journal.specs.Chains.{Keyed}
use Rattle.sa_hall.specs.Folds.{left_by, Agrees, IsLeft}

module _ {S D : Type 0} (step : D → S → S) (Holds : D → S → Type 0) where
  left-end : (s : S) (ls : List (Keyed D)) (l : Keyed D) → left_by step Holds s (ls ++ l ∷ []) ≡ step l.1.deed (left_by step Holds s ls)
  left-end s [] l = refl
  left-end s (x ∷ xs) l = left-end (step x.1.deed s) xs l

  agrees-end : (s : S) (ls : List (Keyed D)) (l : Keyed D) → Agrees step Holds s ls → Holds l.1.deed (left_by step Holds s ls) → Agrees step Holds s (ls ++ l ∷ [])
  agrees-end s [] l a h = (h, tt)
  agrees-end s (x ∷ xs) l a h = (a.0, agrees-end (step x.1.deed s) xs l a.1 h)

  -- what lines leave, and one more
  pub left-push : (opening now : S) (ls : List (Keyed D)) (l : Keyed D) → IsLeft step Holds opening now ls → Holds l.1.deed now → IsLeft step Holds opening (step l.1.deed now) (ls ++ l ∷ [])
  left-push opening now ls l is h = record {
    left = ap (step l.1.deed) is.left ∙ sym (left-end opening ls l);
    agrees = agrees-end opening ls l is.agrees (subst (Holds l.1.deed) is.left h);
  }
