-- One descriptor: what it holds, its number and its chain. Source: this project.
use Rattle.std.specs.Prelude.{◌≡◌, ◌≤◌, ℕ, Bool, true, false, List, length, map, sum, All, slice_index_or}
use Rattle.sa_tie.specs.Seated.{TableId}
use Rattle.sa_journal.specs.Table.{Shelves}
use Rattle.sa_base.specs.Deeds.{part_at, writes_at}
use Rattle.sa_alloc.specs.Layouts.{Layout}
use Rattle.sa_alloc.specs.StoreValues.{Room}
use Rattle.sa_plain.specs.declared.kind.PlainKind.{PlainKind}
use Rattle.sa_plain.specs.Plains.{HasWidth, most_cells}
use Rattle.sa_journal.specs.declared.party.Party.{Party}
use Rattle.sa_journal.specs.declared.party.Party.TheVariants.{Descr, Task}
use Rattle.sa_journal.specs.Said.{Said}
use Rattle.sa_journal.specs.Shapes.{Shape, KindSaid}
use Rattle.sa_journal.specs.Chains.{Keyed, Strand}
use Rattle.sa_journal.specs.Journals.{IsOf}
use Rattle.sa_hall.specs.Contents.{Contents, kind_said, shape_of, opening_of, no_shape, reread, after_writes}
use Rattle.sa_hall.specs.Folds.{IsLeft}

-- what is kept of a descriptor, but for room: what it holds, its number and its chain
pub record Kept (D : Type 0) : Type 0 where
  pub contents : Contents
  pub number : ℕ
  pub chain : Strand D

-- a descriptor with the room of its store, and how many lines its chain takes without memory
pub record DomainValue (D : Type 0) : Type 0 where
  pub it : Kept D
  pub store : Room
  pub chain : ℕ

-- the number of a descriptor, and whether a party is one
abbrev pub descr_in : Party → ℕ
descr_in (Descr d) = d
descr_in (Task t) = 0

abbrev pub is_descr : Party → Bool
is_descr (Descr d) = true
is_descr (Task t) = false

-- plain arrays that can be made, by their kinds and lengths
abbrev pub ArePlains : List (PlainKind × ℕ) → Type 0
ArePlains plains = All (λ p. HasWidth p.0 × (p.1 ≤ most_cells)) plains

-- their kinds and lengths as a shape says them
abbrev pub plains_said : List (PlainKind × ℕ) → List (KindSaid × ℕ)
plains_said plains = map (λ p. (kind_said p.0, p.1)) plains

-- a layout has an entry for each place of its arrays
abbrev pub HasEntries : Layout → Type 0
HasEntries l = length l.states ≡ sum l.lengths

-- what a descriptor holds after a deed that says this
abbrev pub stepped : ℕ → Said → Contents → Contents
stepped d said c = after_writes c (writes_at said.writes d)

-- what a deed read of a descriptor is what that holds
abbrev pub IsReadHere : ℕ → Said → Contents → Type 0
IsReadHere d said c = reread c (part_at said.parts d) ≡ part_at said.parts d

-- Contents are what the lines of a descriptor leave of its opening ones, and each line read what was there before it.
abbrev pub IsLeftHere : {D : Type 0} → (D → Said) → ℕ → Contents → List (Keyed D) → Type 0
IsLeftHere said d c lines = IsLeft (λ x. stepped d (said x)) (λ x. IsReadHere d (said x)) (opening_of (shape_of c)) c lines

-- What is kept is that of the descriptor of a number: it has this number, its chain is one of the journal's, and it has the shape of this descriptor.
pub record IsPlaced {D : Type 0} (roll : Shelves) (ties : List TableId) (shapes : List Shape) (d : ℕ) (k : Kept D) : Type 0 where
  pub number : k.number ≡ d
  pub of : IsOf roll ties (length shapes) k.chain
  pub shape : shape_of k.contents ≡ slice_index_or shapes d no_shape
