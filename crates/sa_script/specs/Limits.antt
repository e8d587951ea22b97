-- The limits of scripts: this project's own.
use Rattle.std.specs.Prelude.{ℕ}
pub use Rattle.sa_call.specs.Limits.{most_descrs, most_arrays, most_entries, most_items}

abbrev pub most_tasks : ℕ
most_tasks = 64

-- calls of a script
abbrev pub most_calls : ℕ
most_calls = 1024

-- bytes of a declared name
abbrev pub most_name_bytes : ℕ
most_name_bytes = 32
