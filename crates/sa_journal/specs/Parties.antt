-- The parties of a journal: its descriptors and its tasks. Source: this project.
use Rattle.std.specs.Prelude.{ℕ, ◌+◌, ◌-◌, ◌<◌, nat_lt, ◌==◌, Bool, true, false, List, [], ◌∷◌, All, if◌then◌else◌}
use Rattle.std.specs.List.{list_any}
use Rattle.sa_journal.specs.declared.party.Party.{Party}
use Rattle.sa_journal.specs.declared.party.Party.TheVariants.{Descr, Task}
use Rattle.sa_journal.specs.Said.{Said}

-- how many descriptors there can be
abbrev pub most_descrs : ℕ
most_descrs = 8

-- whether a number is among these
abbrev pub among : ℕ → List ℕ → Bool
among d ds = list_any (λ x. x == d) ds

-- whether a deed names a party: its parties are the descriptors whose locks it has, and its task
abbrev pub names : Said → Party → Bool
names said (Descr d) = among d said.locks
names said (Task t) = said.task == t

-- the parties of a journal of this many descriptors and tasks
abbrev pub IsParty : ℕ → ℕ → Party → Type 0
IsParty descrs tasks (Descr d) = (d < descrs) × (d < most_descrs)
IsParty descrs tasks (Task t) = t < tasks

-- all parties of a deed are parties of such a journal
abbrev pub NamesParties : ℕ → ℕ → Said → Type 0
NamesParties descrs tasks said = All (λ d. IsParty descrs tasks (Descr d)) said.locks × IsParty descrs tasks (Task said.task)

-- the place of a party among all parties of a journal: descriptors first, then tasks
abbrev pub seat_of : ℕ → Party → ℕ
seat_of descrs (Descr d) = d
seat_of descrs (Task t) = descrs + t

-- the party at a place
abbrev pub party_at : ℕ → ℕ → Party
party_at descrs seat = if nat_lt seat descrs then Descr seat else Task (seat - descrs)

-- the place of a party among those that one line can owe: each descriptor has its own, and the task has the last
abbrev pub debt_of : Party → ℕ
debt_of (Descr d) = d
debt_of (Task t) = most_descrs

-- which parties a deed's line is owed to, by their places, before it is linked to any
abbrev pub owed_by : Said → List Bool
owed_by said =
    among 0 said.locks ∷ among 1 said.locks ∷ among 2 said.locks ∷ among 3 said.locks ∷ among 4 said.locks ∷ among 5 said.locks ∷ among 6 said.locks ∷ among 7 said.locks ∷ true ∷ []

-- a line is owed to nobody
abbrev pub owed_to_none : List Bool
owed_to_none = false ∷ false ∷ false ∷ false ∷ false ∷ false ∷ false ∷ false ∷ false ∷ []
