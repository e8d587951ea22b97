-- What is held under locks, by the numbers of the descriptors. Source: this project.
use Rattle.std.specs.Prelude.{◌≡◌, ◌<◌, ℕ, Bool, true, false, List, [], ◌∷◌, length, map, Option, Some, None, is_some, IfSome, slice_index_or, slice_set}
use Rattle.std.specs.Option.{option_map}
use Rattle.sa_tie.specs.Seated.{TableId}
use Rattle.sa_journal.specs.Table.{Shelves}
use Rattle.sa_base.specs.Deeds.{Part}
use Rattle.sa_alloc.specs.StoreValues.{Room}
use Rattle.sa_journal.specs.Shapes.{Shape}
use Rattle.sa_journal.specs.Parties.{among}
use Rattle.sa_hall.specs.Contents.{Contents, opening_of, no_shape, reread}
use Rattle.sa_hall.specs.Domains.{Kept, HasEntries, IsPlaced}
use Rattle.sa_hall.specs.Passes.{PassValue}

-- what lies under eight locks, by number, where they are held: what is kept of the descriptor, the room of its store, and the room of its chain
pub record Hold (D : Type 0) : Type 0 where
  pub its : List (Option (Kept D))
  pub stores : List (Option Room)
  pub chains : List (Option ℕ)

-- what is held, the numbers of the locks in order, and the pass
pub record HeldValue (D : Type 0) : Type 0 where
  pub hold : Hold D
  pub numbers : List ℕ
  pub pass : PassValue D

-- of what there may be
abbrev pub in_some : {X Y : Type 0} → Option X → (X → Y) → Option Y
in_some o f = option_map f o

-- what is held at a number, and whether anything is
abbrev pub held_at : {X : Type 0} → List (Option X) → ℕ → Option X
held_at os d = slice_index_or os d None

abbrev pub is_held : {X : Type 0} → Option X → Bool
is_held o = is_some o

-- what a held descriptor holds; nothing where none is held
abbrev pub contents_in : {D : Type 0} → Option (Kept D) → Contents
contents_in None = opening_of no_shape
contents_in (Some k) = k.contents

abbrev pub contents_at : {D : Type 0} → List (Option (Kept D)) → ℕ → Contents
contents_at its d = contents_in (held_at its d)

-- the room of a held store; none where none is held
abbrev pub room_in : Option Room → Room
room_in None = record { size = 0; spare = 0 }
room_in (Some room) = room

abbrev pub room_at : List (Option Room) → ℕ → Room
room_at stores d = room_in (held_at stores d)

-- The locks of these numbers are held, and no others; what is held at a number is that descriptor's.
pub record AreTaken {D : Type 0} (roll : Shelves) (ties : List TableId) (shapes : List Shape) (numbers : List ℕ) (its : List (Option (Kept D))) : Type 0 where
  pub held : (d : ℕ) → is_held (held_at its d) ≡ among d numbers
  pub placed : (d : ℕ) (k : _) → held_at its d ≡ Some k → IsPlaced roll ties shapes d k
  pub entries : (d : ℕ) (k : _) → held_at its d ≡ Some k → HasEntries k.contents.layout

-- One more lock is held, and what lies under it is that descriptor's.
pub record Takes {D : Type 0} (roll : Shelves) (ties : List TableId) (shapes : List Shape) (number : ℕ) (old new : List (Option (Kept D))) : Type 0 where
  pub got : Kept D
  pub below : number < length old
  pub its : new ≡ slice_set old number (Some got)
  pub placed : IsPlaced roll ties shapes number got
  pub entries : HasEntries got.contents.layout

-- of each that is held
abbrev pub OfHeld : {X : Type 0} → (X → Type 0) → List (Option X) → Type 0
OfHeld P [] = Unit {0}
OfHeld P (o ∷ os) = IfSome o P × OfHeld P os

-- each held chain has room for a line
abbrev pub AreRoomy : List (Option ℕ) → Type 0
AreRoomy rooms = OfHeld (λ room. 0 < room) rooms

-- to which parties a turn owes its line where these are held: to each held descriptor, and to the task
abbrev pub owed_for : {D : Type 0} → List (Option (Kept D)) → List Bool
owed_for its =
    is_held (held_at its 0) ∷ is_held (held_at its 1) ∷ is_held (held_at its 2) ∷ is_held (held_at its 3) ∷ is_held (held_at its 4) ∷ is_held (held_at its 5) ∷ is_held (held_at its 6) ∷ is_held (held_at its 7) ∷ true ∷ []

-- a turn owes its line to the task alone
abbrev pub owed_to_task : List Bool
owed_to_task = false ∷ false ∷ false ∷ false ∷ false ∷ false ∷ false ∷ false ∷ true ∷ []

-- what was read of descriptors is read again
abbrev pub parts_again : (ℕ → Contents) → List (ℕ × Part) → List (ℕ × Part)
parts_again contents parts = map (λ p. (p.0, reread (contents p.0) p.1)) parts

-- what held descriptors hold, to be lent
abbrev pub lent_of : {D : Type 0} → List (Option (Kept D)) → List (Option Contents)
lent_of its = map (λ o. option_map (λ k. k.contents) o) its

abbrev pub lent_in : Option Contents → Contents
lent_in None = opening_of no_shape
lent_in (Some c) = c

abbrev pub lent_at : List (Option Contents) → ℕ → Contents
lent_at lent d = lent_in (held_at lent d)
