-- The shape of a descriptor's arrays, as plain data. Source: this project.
use Rattle.std.specs.Prelude.{ℕ, List}

-- the kind of a plain array: 64-bit numbers, truth values, or lists of this many bytes or units
pub data KindSaid : Type 0 where
  Numbers : KindSaid
  Flags : KindSaid
  Bytes : ℕ → KindSaid
  Units : ℕ → KindSaid

-- The shape of a descriptor: the lengths of its strings arrays, and the kinds and lengths of its plain arrays, each in order of declaration.
pub record Shape : Type 0 where
  pub strings : List ℕ
  pub plains : List (KindSaid × ℕ)
