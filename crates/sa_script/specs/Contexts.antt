-- What the lines of a script before one have declared, and what a statement adds.
use Rattle.std.specs.Prelude.{ℕ, ◌+◌, ℤ, Bool, true, false, ◌||◌, List, [], ◌∷◌, ◌++◌, Option, Some, None, unwrap_or, is_some, position}
use Rattle.std.specs.Str.{bytes_eq}
use Rattle.sa_descr.specs.declared.descr.NaRule.{NaRule}
use Rattle.sa_view.specs.Views.{natural}
use Rattle.sa_plain.specs.declared.kind.PlainKind.TheVariants as plain
use Rattle.sa_call.specs.declared.decls.Kind.{Kind}
use Rattle.sa_call.specs.declared.decls.Kind.TheVariants as kind
use Rattle.sa_call.specs.declared.call.Call.{Call}
use Rattle.sa_call.specs.Decls.{Declared, length_at}
use Rattle.sa_script.specs.declared.context.Context.{Context}
use Rattle.sa_script.specs.declared.statement.KindTerm.{KindTerm}
use Rattle.sa_script.specs.declared.statement.KindTerm.TheVariants as term
use Rattle.sa_script.specs.Names.{Known}

-- the number of a name among these, none where it is not among them
abbrev pub number_in : List (List ℕ) → List ℕ → Option ℕ
number_in names name = position (λ n. bytes_eq n name) names

-- a descriptor or an array of this name is declared
abbrev pub is_known : Known → List ℕ → Bool
is_known known name = is_some (number_in known.descrs name) || is_some (number_in known.arrays name)

-- the number of a declared descriptor, and of a declared array
abbrev pub descr_number : Context → List ℕ → Option ℕ
descr_number c name = number_in c.names.descrs name

abbrev pub array_number : Context → List ℕ → Option ℕ
array_number c name = number_in c.names.arrays name

-- the number of a used descriptor
abbrev pub home_number : Context → List ℕ → ℕ
home_number c name = unwrap_or (descr_number c name) 0

-- the number of a used array, and the length of it
abbrev pub used_array : Context → List ℕ → ℕ
used_array c name = unwrap_or (array_number c name) 0

abbrev pub used_length : Context → List ℕ → ℕ
used_length c name = length_at c.arrays (used_array c name)

-- what is declared
abbrev pub declared_in : Context → Declared
declared_in c = record { descrs = c.descrs; arrays = c.arrays }

-- nothing is declared before the first line
abbrev pub nothing : Context
nothing = record { version = 1; begun = false; descrs = []; arrays = []; names = record { descrs = []; arrays = [] }; tasks = []; calls = 0; ended = false }

-- a length that a limit allows, 0 in place of each other
abbrev pub length_allowed : Option ℤ → ℕ
length_allowed None = 0
length_allowed (Some n) = natural n

-- a width that a limit allows, 0 in place of each other; and the kind that a declaration means
abbrev pub width_allowed : Option ℤ → ℕ
width_allowed None = 0
width_allowed (Some n) = natural n

abbrev pub kind_in : KindTerm → Kind
kind_in term.Str = kind.Str
kind_in term.Int = kind.Plain plain.Int
kind_in term.Bool = kind.Plain plain.Bool
kind_in (term.Bytes width) = kind.Plain (plain.Bytes (width_allowed width))
kind_in (term.Fixed width) = kind.Plain (plain.Fixed (width_allowed width))

abbrev pub with_descr : Context → List ℕ → NaRule → Bool → Context
with_descr c name rule coerce = record c { descrs = c.descrs ++ (record { na = rule; coerce = coerce }) ∷ []; names = record { descrs = c.names.descrs ++ name ∷ []; arrays = c.names.arrays } }

abbrev pub with_array : Context → List ℕ → ℕ → Kind → ℕ → Context
with_array c name home kind len = record c { arrays = c.arrays ++ (record { home = home; kind = kind; len = len }) ∷ []; names = record { descrs = c.names.descrs; arrays = c.names.arrays ++ name ∷ [] } }

abbrev pub with_task : Context → Context
with_task c = record c { tasks = c.tasks ++ [] ∷ [] }

-- the calls with one more at the end of the last task's
abbrev pub with_call : List (List Call) → Call → List (List Call)
with_call [] call = []
with_call (t ∷ []) call = (t ++ call ∷ []) ∷ []
with_call (t ∷ u ∷ ts) call = t ∷ with_call (u ∷ ts) call

-- one more call of the last task
abbrev pub with_last : Context → Call → Context
with_last c call = record c { tasks = with_call c.tasks call; calls = c.calls + 1 }

-- a statement was read
abbrev pub with_begun : Context → Context
with_begun c = record c { begun = true }
