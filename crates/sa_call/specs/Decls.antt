-- What calls work on: declared descriptors and arrays.
use Rattle.std.specs.Prelude.{ℕ, ◌<◌, ◌≤◌, ◌==◌, Bool, true, false, List, length, sum_by, slice_index_or, if◌then◌else◌}
use Rattle.std.specs.List.{AllByRecursion}
use Rattle.sa_descr.specs.declared.descr.Descr.{Descr}
use Rattle.sa_plain.specs.Plains.{HasWidth}
use Rattle.sa_call.specs.declared.decls.ArrayDecl.{ArrayDecl}
use Rattle.sa_call.specs.declared.decls.Kind.{Kind}
use Rattle.sa_call.specs.declared.decls.Kind.TheVariants as kind
use Rattle.sa_call.specs.Limits.{most_descrs, most_arrays, most_entries}

-- the descriptors and the arrays, each in order of declaration
pub record Declared : Type 0 where
  pub descrs : List Descr
  pub arrays : List ArrayDecl

-- an array by its number, one of length 0 where there is none
abbrev pub array_at : List ArrayDecl → ℕ → ArrayDecl
array_at arrays k = slice_index_or arrays k (record { home = 0; kind = kind.Str; len = 0 })

abbrev pub length_at : List ArrayDecl → ℕ → ℕ
length_at arrays k = (array_at arrays k).len

-- the home of an array, by its number
abbrev pub home_of : Declared → ℕ → ℕ
home_of decls array = (array_at decls.arrays array).home

-- the kind of an array, by its number
abbrev pub kind_of : Declared → ℕ → Kind
kind_of decls array = (array_at decls.arrays array).kind

-- the kind is that of a strings array
abbrev pub is_strings : Kind → Bool
is_strings kind.Str = true
is_strings (kind.Plain plain) = false

abbrev pub is_strings_array : Declared → ℕ → Bool
is_strings_array decls array = is_strings (kind_of decls array)

-- the width of a plain array that has one is a width
abbrev pub HasWidths : Kind → Type 0
HasWidths kind.Str = Unit {0}
HasWidths (kind.Plain plain) = HasWidth plain

-- the entries of an array, where its home is this descriptor
abbrev pub entries_at : ℕ → ArrayDecl → ℕ
entries_at home a = if a.home == home then a.len else 0

-- the entries of all arrays of a descriptor together
abbrev pub entries_of : List ArrayDecl → ℕ → ℕ
entries_of arrays home = sum_by (entries_at home) arrays

-- each home is declared, and the limits hold, those of widths among them
pub record IsDeclared (d : Declared) : Type 0 where
  pub homes : AllByRecursion (λ (a : ArrayDecl). a.home < length d.descrs) d.arrays
  pub descrs : length d.descrs ≤ most_descrs
  pub arrays : length d.arrays ≤ most_arrays
  pub entries : (home : ℕ) → entries_of d.arrays home ≤ most_entries
  pub widths : AllByRecursion (λ (a : ArrayDecl). HasWidths a.kind) d.arrays
