-- Descriptors under no lock: before a hall has them, and after. Source: this project.
use Rattle.std.specs.Prelude.{◌≡◌, nat_lt, ℕ, List, length, Option, Some, slice_get}
use Rattle.sa_tie.specs.Seated.{TableId}
use Rattle.sa_journal.specs.Table.{Shelves}
use Rattle.sa_journal.specs.Shapes.{Shape}
use Rattle.sa_journal.specs.Said.{Said}
use Rattle.sa_journal.specs.Parties.{IsParty}
use Rattle.sa_journal.specs.declared.party.Party.TheVariants.{Descr}
use Rattle.sa_journal.specs.Chains.{Keyed, chain_of}
use Rattle.sa_journal.specs.Journals.{IsOf, Settled}
use Rattle.sa_hall.specs.Domains.{Kept, HasEntries, IsPlaced, IsLeftHere}
use Rattle.sa_hall.specs.Holds.{held_at, is_held}

-- each is that of the descriptor of its place
abbrev pub ArePlaced : {D : Type 0} → Shelves → List TableId → List Shape → List (Kept D) → Type 0
ArePlaced roll ties shapes its = (d : ℕ) (k : _) → slice_get its d ≡ Some k → IsPlaced roll ties shapes d k

-- each has an entry for each place of its strings arrays
abbrev pub HaveEntries : {D : Type 0} → List (Kept D) → Type 0
HaveEntries its = (d : ℕ) (k : _) → slice_get its d ≡ Some k → HasEntries k.contents.layout

-- All descriptors of the shapes are there, each at its number, and no others.
pub record AreQuiet {D : Type 0} (roll : Shelves) (ties : List TableId) (shapes : List Shape) (its : List (Option (Kept D))) : Type 0 where
  pub there : (d : ℕ) → is_held (held_at its d) ≡ nat_lt d (length shapes)
  pub placed : (d : ℕ) (k : _) → held_at its d ≡ Some k → IsPlaced roll ties shapes d k
  pub entries : (d : ℕ) (k : _) → held_at its d ≡ Some k → HasEntries k.contents.layout

-- a descriptor is one of an ended journal
abbrev pub IsOfEnded : {D : Type 0} → Settled D → Kept D → Type 0
IsOfEnded ended k = IsOf ended.roll ended.ties ended.descrs k.chain × IsParty ended.descrs ended.tasks (Descr k.number)

-- the descriptors that are there are those of an ended journal
abbrev pub AreOf : {D : Type 0} → Settled D → List (Option (Kept D)) → Type 0
AreOf ended its = (d : ℕ) (k : _) → held_at its d ≡ Some k → IsOfEnded ended k

-- A descriptor has all lines of a journal that name it, in order; its contents are what they leave, and each read what was there before it.
pub record IsWhole {D : Type 0} (said : D → Said) (lines : List (Keyed D)) (k : Kept D) : Type 0 where
  pub whole : k.chain.lines ≡ chain_of said (Descr k.number) lines
  pub left : IsLeftHere said k.number k.contents (chain_of said (Descr k.number) lines)
