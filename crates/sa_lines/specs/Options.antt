-- Readings that may fail, one after another: a reading gives a value and the bytes after it.
use Rattle.std.specs.Prelude.{List, ◌++◌, Option, option_and_then}

-- what is read next, where the first could be read: std's `and_then` between its two readings
infixl 10 ◌>>=◌
abbrev pub ◌>>=◌ : {A B : Type 0} → Option A → (A → Option B) → Option B
o >>= f = option_and_then f o

-- these items in front of what was read
abbrev pub in_front : {A B : Type 0} → List A → List A × B → List A × B
in_front front read = (front ++ read.0, read.1)
