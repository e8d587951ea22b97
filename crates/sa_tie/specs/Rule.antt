-- The rule of a tie, about its two words and the views of all its seats. Source: this project.
use Rattle.std.specs.Prelude.{◌≡◌, ◌≢◌, ℕ, true, false, List, [], ◌∷◌, ◌++◌, ◌⊎◌}
use mathlib.Core.Option.{some}
use mathlib.Core.List.{IsPrefix}
use lib.ListN.{get_elem?}
use Rattle.atomic_table.specs.Table.{State}
use Rattle.sa_tie.specs.declared.view.View.{View}
use Rattle.sa_tie.specs.declared.view.Part.TheVariants.{Both, Near, Far, Note, Receipt}
use Rattle.sa_tie.specs.Views.{both_ends}

-- the last of the keys, and 0 where there is none
abbrev pub last_key : List ℕ → ℕ
last_key [] = 0
last_key (key ∷ []) = key
last_key (key ∷ next ∷ keys) = last_key (next ∷ keys)

-- the near end is the first seat and has the near list; while it is closed the lists are equal; the receipt that it took in begins the far list
pub record FitsNear (near far : List ℕ) (seat : ℕ) (view : View) : Type 0 where
  pub only : seat ≡ 0
  pub whole : view.keys ≡ near
  pub closed : view.is_open ≡ false → near ≡ far
  pub told : IsPrefix view.taken far

-- the far end is the second seat and has the far list; the note that it took in begins the near list, and one from a closed near end the far list too
pub record FitsFar (near far : List ℕ) (seat : ℕ) (view : View) : Type 0 where
  pub only : seat ≡ 1
  pub whole : view.keys ≡ far
  pub told : IsPrefix view.taken near
  pub settled : view.from_closed ≡ true → IsPrefix view.taken far

-- a note begins the near list, and one from a closed near end begins the far list too
pub record FitsNote (near far : List ℕ) (view : View) : Type 0 where
  pub told : IsPrefix view.keys near
  pub settled : view.from_closed ≡ true → IsPrefix view.keys far

-- what each part needs of its view: a receipt begins the far list, of a spent view nothing is said, and no seat is both ends any more
pub record FitsView (near far : List ℕ) (seat : ℕ) (view : View) : Type 0 where
  pub is_near : view.part ≡ Near → FitsNear near far seat view
  pub is_far : view.part ≡ Far → FitsFar near far seat view
  pub is_note : view.part ≡ Note → FitsNote near far view
  pub is_receipt : view.part ≡ Receipt → IsPrefix view.keys far
  pub is_parted : view.part ≢ Both

-- the two lists are equal, or the near list is longer by its last key
abbrev pub Ahead : List ℕ → List ℕ → Type 0
Ahead near far = (near ≡ far) ⊎ (near ≡ far ++ last_key near ∷ [])

-- each view fits the two lists
abbrev pub EachFits : List ℕ → List ℕ → List View → Type 0
EachFits near far views = (seat : ℕ) (view : View) → get_elem? views seat ≡ some view → FitsView near far seat view

-- the words are the last keys of the two lists, of which the near list is ahead by one key at most
pub record FitsTie (near far : List ℕ) (words : List ℕ) (views : List View) : Type 0 where
  pub last : words ≡ last_key near ∷ last_key far ∷ []
  pub ahead : Ahead near far
  pub each : EachFits near far views

-- the tie is in use: there are two lists that its words and views fit
abbrev pub Runs : List ℕ → List View → Type 0
Runs words views = (near : List ℕ) × (far : List ℕ) × FitsTie near far words views

-- the tie's one seat is not parted yet
abbrev pub Begins : List ℕ → List View → Type 0
Begins words views = (words ≡ 0 ∷ 0 ∷ []) × (views ≡ both_ends ∷ [])

-- the rule: a tie begins with one seat, and then runs
abbrev pub Tied : {S : Type 0} → State S View → Type 0
Tied s = Begins s.words s.views ⊎ Runs s.words s.views
