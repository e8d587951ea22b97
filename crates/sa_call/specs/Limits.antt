-- The limits of declarations and calls: this project's own.
use Rattle.std.specs.Prelude.{ℕ}

abbrev pub most_descrs : ℕ
most_descrs = 8

abbrev pub most_arrays : ℕ
most_arrays = 64

-- entries of all arrays of one descriptor together
abbrev pub most_entries : ℕ
most_entries = 8192

-- items of one literal list
abbrev pub most_items : ℕ
most_items = 8192

-- the weight of one call
abbrev pub most_weight : ℕ
most_weight = 1048576
