-- The limits of bytes that are shared: this project's own.
use Rattle.std.specs.Prelude.{ℕ}

-- the most bytes that one value has
abbrev pub most_shared : ℕ
most_shared = 65536
