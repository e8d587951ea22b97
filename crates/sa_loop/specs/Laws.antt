-- Laws of what calls take and of their effects.
use Rattle.std.specs.Prelude.{◌≡◌, ◌<◌, ◌+◌, ◌==◌, ℕ, Bool, true, false, List, length, slice_index_or, Option, Some, None}
use Rattle.std.specs.List.{AllByRecursion}
use Rattle.sa_text.specs.declared.value.Value.TheVariants.{Missing}
use Rattle.sa_alloc.specs.Layouts.{first_entry, value_at}
use Rattle.sa_view.specs.declared.view.View.{View}
use Rattle.sa_call.specs.declared.call.Call.{Call}
use Rattle.sa_call.specs.declared.decls.Kind.TheVariants as kind
use Rattle.sa_call.specs.Decls.{Declared, IsDeclared, home_of, is_strings_array, kind_of, length_at}
use Rattle.sa_call.specs.Parts.{part_weight}
use Rattle.sa_call.specs.Told.{index_at_home, output_is_at}
use Rattle.sa_call.specs.Valid.{IsCall}
use Rattle.sa_loop.specs.Plays.{play_world}
use Rattle.sa_loop.specs.States.{State, World, lengths_of, plain_of, values_at}
use Rattle.sa_loop.specs.Takes.{part, weight}
use Rattle.sa_loop.specs.Writes.{world_after}

-- A part tells the weight of what its call takes there, whether the call is too heavy or not.
abbrev pub PartsTellWeights : Type 0
PartsTellWeights = (decls : Declared) (s : State) (call : Call) (heavy : Bool) (d : ℕ) → part_weight (part decls s call heavy d) ≡ weight decls s call d

-- a strings array of a world has as many items as declared, and the layout of its home has the value of each in its entry
pub record ShowsItems (decls : Declared) (w : World) (array : ℕ) : Type 0 where
  pub lengths : (w (home_of decls array)).layout.lengths ≡ lengths_of decls (home_of decls array)
  pub count : length (values_at decls w array) ≡ length_at decls.arrays array
  pub items : (place : ℕ) → place < length_at decls.arrays array
      → value_at (w (home_of decls array)).layout (first_entry (lengths_of decls (home_of decls array)) (index_at_home decls array) + place) ≡ slice_index_or (values_at decls w array) place Missing

-- a plain array of a world has the declared kind, and as many items as declared
pub record ShowsPlain (decls : Declared) (w : World) (array : ℕ) : Type 0 where
  pub kind_is : kind.Plain (plain_of decls w array).kind ≡ kind_of decls array
  pub count : length (plain_of decls w array).items ≡ length_at decls.arrays array

-- the same of an array, by whether it is a strings array
abbrev pub ShowsArray : Bool → Declared → World → ℕ → Type 0
ShowsArray true decls w array = ShowsItems decls w array
ShowsArray false decls w array = ShowsPlain decls w array

-- In each world that calls leave, the layouts have the items of the strings arrays, and the plain arrays are those that were declared.
abbrev pub LayoutsShowItems : Type 0
LayoutsShowItems = (decls : Declared) (calls : List Call) → IsDeclared decls → AllByRecursion (IsCall decls) calls
    → (array : ℕ) → array < length decls.arrays → ShowsArray (is_strings_array decls array) decls (play_world decls calls) array

-- the output of a call is this array
abbrev pub is_output : ℕ → Option View → Bool
is_output array None = false
is_output array (Some v) = v.array == array

-- a call leaves each home but its output's, and each array but its output, be it a strings array or a plain one
pub record LeavesRest (decls : Declared) (w : World) (call : Call) : Type 0 where
  pub homes : (d : ℕ) → output_is_at decls d call.out ≡ false → world_after decls w call d ≡ w d
  pub arrays : (array : ℕ) → array < length decls.arrays → is_strings_array decls array ≡ true → is_output array call.out ≡ false
      → values_at decls (world_after decls w call) array ≡ values_at decls w array
  pub plains : (array : ℕ) → array < length decls.arrays → is_strings_array decls array ≡ false → is_output array call.out ≡ false
      → plain_of decls (world_after decls w call) array ≡ plain_of decls w array

-- The effect of a call changes only the array of its output and the layout of that one's home.
abbrev pub CallsLeaveRest : Type 0
CallsLeaveRest = (decls : Declared) (w : World) (call : Call) → IsCall decls call → LeavesRest decls w call
