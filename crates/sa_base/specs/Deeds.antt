-- What a call read of its descriptors and what it writes to them, as plain data.
use Rattle.std.specs.Prelude.{ℕ, ◌+◌, ◌*◌, ◌==◌, Bool, List, [], ◌∷◌, length, if◌then◌else◌}
use Rattle.sa_base.specs.Items.{Item}
use Rattle.sa_base.specs.declared.stats.Stats.{Stats}

-- a place of an array: whether the array holds texts, its number among the arrays of its home, and the place in it
pub record Place : Type 0 where
  pub is_strings : Bool
  pub array : ℕ
  pub place : ℕ

-- What was read of one descriptor: places with the items found there; places with the weight of these items alone; the statistics; the picture, its entries and its arena; or the picture's weight alone.
pub data Part : Type 0 where
  Read : List (Place × Item) → Part
  Weighed : List Place → ℕ → Part
  Counted : Stats → Part
  Pictured : List (List ℕ) → List ℕ → Part
  PictureWeighed : ℕ → Part

-- what a picture weighs: 16 for each entry, and the bytes of the arena
abbrev pub picture_weight : List (List ℕ) → List ℕ → ℕ
picture_weight entries arena = 16 * length entries + length arena

-- what was read of a descriptor, by its number; nothing where it is not among the parts
abbrev pub part_at : List (ℕ × Part) → ℕ → Part
part_at [] d = Read []
part_at (p ∷ ps) d = if p.0 == d then p.1 else part_at ps d

-- what is written to one descriptor: the put of an item at a place, or a tidy of all that it holds
pub data Write : Type 0 where
  Put : Place → Item → Write
  Tidy : Write

-- what is written to a descriptor, by its number; nothing where it is not among the writes
abbrev pub writes_at : List (ℕ × List Write) → ℕ → List Write
writes_at [] d = []
writes_at (w ∷ ws) d = if w.0 == d then w.1 else writes_at ws d
