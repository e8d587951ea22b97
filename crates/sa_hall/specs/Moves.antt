-- What a commit asks and makes of all that is held. Source: this project.
use Rattle.std.specs.Prelude.{◌≡◌, ℕ, suc, true, List, [], ◌∷◌, Option, IfSome}
use Rattle.std.specs.Option.{option_map}
use Rattle.sa_alloc.specs.StoreValues.{Room}
use Rattle.sa_base.specs.Deeds.{writes_at}
use Rattle.sa_journal.specs.Said.{Said}
use Rattle.sa_journal.specs.Chains.{Keyed, with_line}
use Rattle.sa_hall.specs.declared.change.Change.{Change}
use Rattle.sa_hall.specs.declared.change.Change.TheVariants as change
use Rattle.sa_hall.specs.declared.work.Work.{Work}
use Rattle.sa_hall.specs.declared.work.Work.TheVariants as work
use Rattle.sa_hall.specs.Domains.{Kept, stepped}
use Rattle.sa_hall.specs.Passes.{pass_with}
use Rattle.sa_hall.specs.Holds.{Hold, HeldValue, held_at, is_held, contents_at, room_in, room_at, parts_again}
use Rattle.sa_hall.specs.Changes.{writes_by, change_at, CanChange, FitsHere}

-- work can be done: its number is held, and what it changes there can be changed
abbrev pub CanWork : {D : Type 0} → Hold D → Work → Type 0
CanWork h work.Nothing = Unit {0}
CanWork h (work.Strings number plan) = (is_held (held_at h.its number) ≡ true) × CanChange (contents_at h.its number) (room_at h.stores number) (change.Strings plan)
CanWork h (work.Plains number array places items) = (is_held (held_at h.its number) ≡ true) × CanChange (contents_at h.its number) (room_at h.stores number) (change.Plains array places items)
CanWork h (work.Tidied number store) = (is_held (held_at h.its number) ≡ true) × CanChange (contents_at h.its number) (room_at h.stores number) (change.Tidied store)

-- What a deed says fits what is held, and the work: its locks are the held ones, what it read is what they hold, its writes are the work, and that can be done.
pub record Fits {D : Type 0} (s : Said) (work : Work) (h : HeldValue D) : Type 0 where
  pub locks : s.locks ≡ h.numbers
  pub reads : parts_again (λ d. contents_at h.hold.its d) s.parts ≡ s.parts
  pub writes : (d : ℕ) → writes_at s.writes d ≡ writes_by (change_at work d)
  pub can : CanWork h.hold work

-- the same for one descriptor and the change there, where it is held
abbrev pub FitsAt : {D : Type 0} → Said → Change → Option (Kept D) → Option Room → Type 0
FitsAt s c it store = IfSome it (λ k. FitsHere s c k (room_in store))

module _ {D : Type 0} (said : D → Said) where
  -- what is kept of the descriptor of a number after one more line
  abbrev pub moved : Keyed D → ℕ → Kept D → Kept D
  moved line d k = record { contents = stepped d (said line.1.deed) k.contents; number = k.number; chain = with_line k.chain line }

  -- the same of all that is held from a number on, by place
  abbrev pub all_moved : Keyed D → ℕ → List (Option (Kept D)) → List (Option (Kept D))
  all_moved line d [] = []
  all_moved line d (o ∷ os) = option_map (λ k. moved line d k) o ∷ all_moved line (suc d) os

  -- One more line, of this number and deed: each held descriptor has it in its chain and is moved by it, the pass has it in its chain, and nothing else changed.
  pub record Commits (deed : D) (number : ℕ) (old new : HeldValue D) : Type 0 where
    pub line : Keyed D
    pub number_is : line.1.number ≡ number
    pub deed_is : line.1.deed ≡ deed
    pub its : new.hold.its ≡ all_moved line 0 old.hold.its
    pub pass : new.pass.it ≡ pass_with old.pass.it line
    pub numbers : new.numbers ≡ old.numbers

-- What is held is as before, but for room.
pub record IsAsBefore {D : Type 0} (old new : HeldValue D) : Type 0 where
  pub its : new.hold.its ≡ old.hold.its
  pub pass : new.pass.it ≡ old.pass.it
  pub numbers : new.numbers ≡ old.numbers
