-- What a journal keeps, and what an open turn knows. Source: this project.
use Rattle.std.specs.Prelude.{◌≡◌, ℕ, ◌+◌, ◌<◌, ◌&&◌, not, Bool, false, List, [], ◌∷◌, ◌++◌, length, map, All, slice_get, slice_index_or, Some, cond}
use Rattle.sa_tie.specs.Seated.{TableId}
use Rattle.boxcar.specs.Table.{Shelves, Where, Shows}
use Rattle.sa_tie.specs.Ends.{End}
use Rattle.sa_journal.specs.declared.line.Line.{Line}
use Rattle.sa_journal.specs.declared.party.Party.{Party}
use Rattle.sa_journal.specs.declared.tie.Tie.{Tie}
use Rattle.sa_journal.specs.Said.{Said}
use Rattle.sa_journal.specs.Parties.{IsParty, NamesParties, seat_of, party_at, debt_of}
use Rattle.sa_journal.specs.Chains.{Keyed, Strand, keys_of, keyed, line_names, chain_of}

-- what contracts see of an ended journal: the roll of its lines, its ties, how many descriptors and tasks it has, and its lines, in order
pub record Settled (D : Type 0) : Type 0 where
  pub roll : Shelves
  pub ties : List TableId
  pub descrs : ℕ
  pub tasks : ℕ
  pub lines : List (Keyed D)

-- what contracts see of what lies under a journal's lock: its lines, and how many more it takes without memory
pub record Written (D : Type 0) : Type 0 where
  pub lines : List (Keyed D)
  pub room : ℕ

-- what contracts see of an open turn: the journal's lines before it, its own line, and to which parties that is owed
pub record Opened (D : Type 0) : Type 0 where
  pub lines : List (Keyed D)
  pub line : Keyed D
  pub owed : List Bool

-- the chain is one of a journal: it has the journal's roll, and its tie is the journal's for its party
abbrev pub IsOf : {D : Type 0} → Shelves → List TableId → ℕ → Strand D → Type 0
IsOf roll ties descrs chain = (chain.roll ≡ roll) × (slice_get ties (seat_of descrs chain.party) ≡ Some chain.tie)

-- the chain is that of a new journal's party at this place, and empty
abbrev pub IsNew : {D : Type 0} → Shelves → List TableId → ℕ → ℕ → Strand D → Type 0
IsNew roll ties descrs seat chain = IsOf roll ties descrs chain × (chain.party ≡ party_at descrs seat) × (chain.lines ≡ [])

-- a tie's two ends are of one tie, and no key was pulled
abbrev pub IsFresh : Tie → Type 0
IsFresh t = (t.near.tie ≡ t.far.tie) × (t.near.keys ≡ []) × (t.far.keys ≡ [])

-- each line has its place as its number
abbrev pub AreNumbered : {D : Type 0} → List (Keyed D) → Type 0
AreNumbered lines = (k : ℕ) (l : _) → slice_get lines k ≡ Some l → l.1.number ≡ k

-- each tie has the keys of the lines and no more
abbrev pub nothing_more : Party → List ℕ
nothing_more party = []

module _ {D : Type 0} (said : D → Said) where
  -- the parties of each line are parties of such a journal
  abbrev pub NameParties : ℕ → ℕ → List (Keyed D) → Type 0
  NameParties descrs tasks lines = All (λ l. NamesParties descrs tasks (said l.1.deed)) lines

  -- the key of an open turn's line, where it is linked to the party: named by the line and no longer owed it
  abbrev pub linked : Keyed D → List Bool → Party → List ℕ
  linked line owed party = cond (line_names said party line && not (slice_index_or owed (debt_of party) false)) (line.0 ∷ []) []

  -- The near ends are those of the ties, one for each party: each has the keys of its party's chain in the lines, and then these more.
  pub record AreTied (descrs tasks : ℕ) (ties : List TableId) (lines : List (Keyed D)) (more : Party → List ℕ) (nears : List End) : Type 0 where
    pub count : length nears ≡ descrs + tasks
    pub tied : map (λ n. n.tie) nears ≡ ties
    pub each : (p : Party) (n : End) → IsParty descrs tasks p → slice_get nears (seat_of descrs p) ≡ Some n → n.keys ≡ keys_of (chain_of said p lines) ++ more p

  -- The lines of a journal are lines of its roll, numbered from 0 in order, and name parties of the journal alone.
  pub record AreLines (roll : Shelves) (descrs tasks : ℕ) (tokens : List (Where (Line D))) : Type 0 where
    pub shown : All (λ t. Shows roll t) tokens
    pub numbered : AreNumbered (keyed tokens)
    pub parties : All (λ t. NamesParties descrs tasks (said t.value.deed)) tokens

  -- A turn for the line of a token, with room for it: the line is the next of the journal's lines, and each tie has its key where it is linked.
  pub record IsTurn (roll : Shelves) (descrs tasks : ℕ) (ties : List TableId) (tokens : List (Where (Line D))) (room : ℕ) (token : Where (Line D)) (owed : List Bool) (nears : List End) : Type 0 where
    pub before : AreLines roll descrs tasks tokens
    pub has_room : 0 < room
    pub shown : Shows roll token
    pub next : token.value.number ≡ length tokens
    pub parties : NamesParties descrs tasks (said token.value.deed)
    pub tied : AreTied descrs tasks ties (keyed tokens) (linked (token.index, token.value) owed) nears
