-- Texts outside the arena: bytes under keys. Source: this project.
use Rattle.std.specs.Prelude.{◌≡◌, ◌≢◌, ℕ, List, Option, None, is_some, count_by, Bool, slice_index_or}

-- the bytes or nothing at each key from 0 on, and how many more texts can be put with no memory
pub record Keyed : Type 0 where
  pub texts : List (Option (List ℕ))
  pub spare : ℕ

-- the bytes under a key, if it is in use
abbrev pub bytes_at : List (Option (List ℕ)) → ℕ → Option (List ℕ)
bytes_at texts key = slice_index_or texts key None

-- the key is in use
abbrev pub is_used : List (Option (List ℕ)) → ℕ → Bool
is_used texts key = is_some (bytes_at texts key)

-- how many keys are in use
abbrev pub used_count : List (Option (List ℕ)) → ℕ
used_count texts = count_by is_some texts

-- one key has these bytes, or is not in use, and every other key is as before
pub record Changes (old new : List (Option (List ℕ))) (key : ℕ) (bytes : Option (List ℕ)) : Type 0 where
  pub changed : bytes_at new key ≡ bytes
  pub others : (other : ℕ) → other ≢ key → bytes_at new other ≡ bytes_at old other
