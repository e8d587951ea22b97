-- What was last read of each strings array: this project's own, so that what did not change is not read again.
use Rattle.std.specs.Prelude.{◌≡◌, ◌<◌, ℕ, true, List, length, nat_lt, slice_index_or, slice_set, Option, Some, None, if◌then◌else◌}
use Rattle.sa_text.specs.declared.value.Value.TheVariants.{Missing}
use Rattle.sa_view.specs.Views.{places_of, read_at}
use Rattle.sa_view.specs.declared.view.View.{View}
use Rattle.sa_plain.specs.Items.{values_of}
use Rattle.sa_plain.specs.declared.items.Items.{Items}
use Rattle.sa_call.specs.Decls.{Declared, is_strings_array}
use Rattle.sa_loop.specs.declared.last_read.LastRead.{LastRead}
use Rattle.sa_loop.specs.States.{World, values_at}

-- a view of an array in place of another one's, with the items that are there in a world
abbrev pub read_in : Declared → World → ℕ → LastRead → LastRead
read_in decls w array last = record {
  view = record { array = array; start = last.view.start; count = last.view.count; step = last.view.step };
  list = read_at Missing (values_at decls w array) (places_of last.view);
}

-- what is known of a strings array is a view of it, with the items that are there
abbrev pub AreKnown : Declared → World → List (Option LastRead) → Type 0
AreKnown decls w lasts = (array : ℕ) → (last : LastRead) → array < length decls.arrays → is_strings_array decls array ≡ true → slice_index_or lasts array None ≡ Some last → last ≡ read_in decls w array last

-- something in place of what is known of an array, if there is one of this number
abbrev pub placed : List (Option LastRead) → ℕ → Option LastRead → List (Option LastRead)
placed lasts array last = if nat_lt array (length lasts) then slice_set lasts array last else lasts

-- nothing is known of the array of an output
abbrev pub unknown_output : Option View → List (Option LastRead) → List (Option LastRead)
unknown_output None lasts = lasts
unknown_output (Some out) lasts = placed lasts out.array None

-- the results of a call are the items of its output, where it has some and the output is of a strings array
abbrev pub AreThere : Declared → World → Option View → Option Items → Type 0
AreThere decls w None results = Unit {0}
AreThere decls w (Some out) None = Unit {0}
AreThere decls w (Some out) (Some results) = is_strings_array decls out.array ≡ true → values_of results ≡ read_at Missing (values_at decls w out.array) (places_of out)
