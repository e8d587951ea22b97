-- The list machine: what a world gives each descriptor.
use Rattle.std.specs.Prelude.{ℕ, List, map, filter, replicate, slice_index_or, [], true, false, if◌then◌else◌}
use Rattle.sa_base.specs.Items.{Item}
use Rattle.sa_text.specs.Values.{item_of}
use Rattle.sa_text.specs.declared.value.Value.{Value}
use Rattle.sa_text.specs.declared.value.Value.TheVariants.{Missing, Of}
use Rattle.sa_view.specs.Views.{places_of, read_at}
use Rattle.sa_view.specs.declared.view.View.{View}
use Rattle.sa_alloc.specs.Layouts.{Layout, opening_layout}
use Rattle.sa_plain.specs.Plains.{PlainValue, items_at, opening_plain}
use Rattle.sa_plain.specs.declared.kind.PlainKind.{PlainKind}
use Rattle.sa_plain.specs.declared.kind.PlainKind.TheVariants as plain
use Rattle.sa_call.specs.declared.decls.ArrayDecl.{ArrayDecl}
use Rattle.sa_call.specs.declared.decls.Kind.{Kind}
use Rattle.sa_call.specs.declared.decls.Kind.TheVariants as kind
use Rattle.sa_call.specs.Decls.{Declared, home_of, is_strings_array}
use Rattle.sa_call.specs.Told.{is_among, index_at_home}
use Rattle.sa_hall.specs.Contents.{plain_at}

-- the state of a descriptor: the items of its strings arrays and its plain arrays, each in order of declaration, and the layout of its strings arrays
pub record State : Type 0 where
  pub strings : List (List Value)
  pub plains : List PlainValue
  pub layout : Layout

-- a world gives each descriptor, by its number, a state
abbrev pub World : Type 0
World = ℕ → State

-- the lengths of a descriptor's strings arrays, in order of declaration
abbrev pub lengths_of : Declared → ℕ → List ℕ
lengths_of decls d = map (λ (a : ArrayDecl). a.len) (filter (is_among true d) decls.arrays)

-- the kind of a plain array; a strings array has none
abbrev pub plain_kind : Kind → PlainKind
plain_kind kind.Str = plain.Int
plain_kind (kind.Plain p) = p

-- the kinds and lengths of a descriptor's plain arrays, in order of declaration
abbrev pub plain_shape : ArrayDecl → PlainKind × ℕ
plain_shape a = (plain_kind a.kind, a.len)

abbrev pub plains_of : Declared → ℕ → List (PlainKind × ℕ)
plains_of decls d = map plain_shape (filter (is_among false d) decls.arrays)

-- plain arrays of these kinds and lengths before the first call
abbrev pub opening_plains : List (PlainKind × ℕ) → List PlainValue
opening_plains shapes = map (λ (p : PlainKind × ℕ). opening_plain p.0 p.1) shapes

-- the opening world: each entry of each strings array is fresh, and reads as the empty text; each plain array is new
abbrev pub opening : Declared → World
opening decls d = record {
  strings = map (λ (n : ℕ). replicate n (Of [])) (lengths_of decls d);
  plains = opening_plains (plains_of decls d);
  layout = opening_layout (lengths_of decls d);
}

-- the items of a strings array, by its number among those of its home
abbrev pub array_in : State → ℕ → List Value
array_in s index = slice_index_or s.strings index []

-- the items of a strings array in a world
abbrev pub values_at : Declared → World → ℕ → List Value
values_at decls w array = array_in (w (home_of decls array)) (index_at_home decls array)

-- a plain array in a world
abbrev pub plain_of : Declared → World → ℕ → PlainValue
plain_of decls w array = plain_at (w (home_of decls array)).plains (index_at_home decls array)

-- the values of a view of a strings array in a state of its home
abbrev pub view_values : Declared → State → View → List Value
view_values decls s v = read_at Missing (array_in s (index_at_home decls v.array)) (places_of v)

-- the items of a view in a state of its home
abbrev pub view_items : Declared → State → View → List Item
view_items decls s v = if is_strings_array decls v.array then map item_of (view_values decls s v) else items_at (plain_at s.plains (index_at_home decls v.array)) (places_of v)
