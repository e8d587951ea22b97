-- The list machine as the program holds it: for each descriptor a layout and plain arrays.
use Rattle.std.specs.Prelude.{◌≡◌, ℕ, List, [], ◌∷◌, length, map, take, drop, sum, slice_index_or}
use Rattle.sa_text.specs.declared.value.Value.{Value}
use Rattle.sa_text.specs.declared.value.Value.TheVariants.{Missing}
use Rattle.sa_view.specs.Views.{places_of, read_at}
use Rattle.sa_view.specs.declared.view.View.{View}
use Rattle.sa_alloc.specs.Layouts.{Layout, IsSound, opening_layout, values_of}
use Rattle.sa_alloc.specs.StoreValues as stores
use Rattle.sa_plain.specs.Plains.{PlainValue}
use Rattle.sa_plain.specs.declared.kind.PlainKind.{PlainKind}
use Rattle.sa_call.specs.Decls.{Declared}
use Rattle.sa_call.specs.Told.{index_at_home}
use Rattle.sa_hall.specs.Changes.{contents_of}
use Rattle.sa_hall.specs.Contents.{Contents, no_shape, opening_of}
use Rattle.sa_loop.specs.declared.room.Room.{Room}
use Rattle.sa_loop.specs.States.{State, World, lengths_of, opening_plains, plains_of}

-- a list in pieces of these lengths
abbrev pub pieces : {A : Type 0} → List ℕ → List A → List (List A)
pieces [] xs = []
pieces (n ∷ ns) xs = take n xs ∷ pieces ns (drop n xs)

-- the items of a layout's arrays
abbrev pub strings_in : Layout → List (List Value)
strings_in l = pieces l.lengths (values_of l)

-- the state that contents show
abbrev pub shown : Contents → State
shown c = record { strings = strings_in c.layout; plains = c.plains; layout = c.layout }

-- the values of a view of a strings array in the layout of its home
abbrev pub values_in : Declared → Layout → View → List Value
values_in decls l v = read_at Missing (slice_index_or (strings_in l) (index_at_home decls v.array) []) (places_of v)

-- the contents that a state is of
abbrev pub held_in : State → Contents
held_in s = record { layout = s.layout; plains = s.plains }

-- the world that contents show
abbrev pub world_of : (ℕ → Contents) → World
world_of holds d = shown (holds d)

-- what a descriptor holds before the first call
abbrev pub opening_holds : Declared → ℕ → Contents
opening_holds decls d = record { layout = opening_layout (lengths_of decls d); plains = opening_plains (plains_of decls d) }

-- the kinds and lengths of plain arrays
abbrev pub plain_shapes : List PlainValue → List (PlainKind × ℕ)
plain_shapes plains = map (λ (p : PlainValue). (p.kind, length p.items)) plains

-- contents are those of a descriptor's arrays
pub record IsContents (decls : Declared) (d : ℕ) (c : Contents) : Type 0 where
  pub sound : IsSound c.layout
  pub lengths : c.layout.lengths ≡ lengths_of decls d
  pub states : length c.layout.states ≡ sum c.layout.lengths
  pub plains : plain_shapes c.plains ≡ plains_of decls d

-- the state of a descriptor is the one that its contents show
pub record IsShown (decls : Declared) (d : ℕ) (s : State) : Type 0 where
  pub contents : IsContents decls d (held_in s)
  pub items : s ≡ shown (held_in s)

-- what the room of a descriptor holds
abbrev pub room_holds : Room → Contents
room_holds r = contents_of r.store r.plains.items

-- all that it holds: of the store the texts and where they stand too
abbrev pub room_keeps : Room → stores.Contents × List PlainValue
room_keeps r = (r.store.contents, r.plains.items)

-- what is held by number; nothing where there is no such room
abbrev pub holds_in : List Room → ℕ → Contents
holds_in rooms d = slice_index_or (map room_holds rooms) d (opening_of no_shape)

-- the lengths of strings arrays, how many entries they have together, and the kinds and lengths of plain arrays: those that contents have, and those that a descriptor has
abbrev pub arrays_in : Contents → List ℕ × ℕ × List (PlainKind × ℕ)
arrays_in c = (c.layout.lengths, length c.layout.states, plain_shapes c.plains)

abbrev pub arrays_of : Declared → ℕ → List ℕ × ℕ × List (PlainKind × ℕ)
arrays_of decls d = (lengths_of decls d, sum (lengths_of decls d), plains_of decls d)
