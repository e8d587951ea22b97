-- Lines with their keys, and the chain of a party. Source: this project.
use Rattle.std.specs.Prelude.{◌≡◌, ℕ, suc, Bool, true, List, [], ◌∷◌, ◌++◌, map, filter, All}
use Rattle.sa_tie.specs.Seated.{TableId}
use Rattle.boxcar.specs.Table.{Shelves, Where, Shows}
use Rattle.sa_journal.specs.declared.line.Line.{Line}
use Rattle.sa_journal.specs.declared.party.Party.{Party}
use Rattle.sa_journal.specs.Said.{Said}
use Rattle.sa_journal.specs.Parties.{names, party_at}

-- a line with its key in the roll
abbrev pub Keyed : Type 0 → Type 0
Keyed D = ℕ × Line D

-- the keys of lines
abbrev pub keys_of : {D : Type 0} → List (Keyed D) → List ℕ
keys_of lines = map (λ l. l.0) lines

-- the lines that tokens of a roll stand for, with their keys
abbrev pub keyed : {D : Type 0} → List (Where (Line D)) → List (Keyed D)
keyed tokens = map (λ t. (t.index, t.value)) tokens

-- what contracts see of a chain, but for its room: the roll of its lines, its party, its tie and its lines, in order
pub record Strand (D : Type 0) : Type 0 where
  pub roll : Shelves
  pub party : Party
  pub tie : TableId
  pub lines : List (Keyed D)

-- a chain with its room: how many lines it takes without memory
pub record Roomy (D : Type 0) : Type 0 where
  pub it : Strand D
  pub room : ℕ

-- a chain with one more line
abbrev pub with_line : {D : Type 0} → Strand D → Keyed D → Strand D
with_line chain line = record { roll = chain.roll; party = chain.party; tie = chain.tie; lines = chain.lines ++ line ∷ [] }

-- the chains of a new journal, one for each tie, from this place on: each is of the party at its place, and empty
abbrev pub new_chains : {D : Type 0} → Shelves → ℕ → ℕ → List TableId → List (Strand D)
new_chains roll descrs seat [] = []
new_chains roll descrs seat (t ∷ ts) = record { roll = roll; party = party_at descrs seat; tie = t; lines = [] } ∷ new_chains roll descrs (suc seat) ts

module _ {D : Type 0} (said : D → Said) where
  -- whether a line names a party
  abbrev pub line_names : Party → Keyed D → Bool
  line_names party line = names (said line.1.deed) party

  -- the chain of a party in a list of lines: those that name it, in order
  abbrev pub chain_of : Party → List (Keyed D) → List (Keyed D)
  chain_of party lines = filter (λ l. line_names party l) lines

  -- The tokens are those of a chain: they show lines of its roll, each names its party, and its tie has their keys.
  pub record IsChain (roll : Shelves) (party : Party) (tokens : List (Where (Line D))) (keys : List ℕ) : Type 0 where
    pub shown : All (λ t. Shows roll t) tokens
    pub named : All (λ t. names (said t.value.deed) party ≡ true) tokens
    pub tied : keys ≡ keys_of (keyed tokens)
