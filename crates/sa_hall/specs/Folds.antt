-- What a chain of lines leaves of a state, for any step and any test of a deed. Source: this project.
use Rattle.std.specs.Prelude.{◌≡◌, List, [], ◌∷◌}
use Rattle.sa_journal.specs.Chains.{Keyed}

module _ {S D : Type 0} (step : D → S → S) (Holds : D → S → Type 0) where
  -- a state after the deeds of lines, one after another
  abbrev pub left_by : S → List (Keyed D) → S
  left_by s [] = s
  left_by s (l ∷ ls) = left_by (step l.1.deed s) ls

  -- the deed of each line holds of the state that the lines before it leave
  abbrev pub Agrees : S → List (Keyed D) → Type 0
  Agrees s [] = Unit {0}
  Agrees s (l ∷ ls) = Holds l.1.deed s × Agrees (step l.1.deed s) ls

  -- A state is what lines leave of an opening one, and the lines agree with it.
  pub record IsLeft (opening now : S) (lines : List (Keyed D)) : Type 0 where
    pub left : now ≡ left_by opening lines
    pub agrees : Agrees opening lines
