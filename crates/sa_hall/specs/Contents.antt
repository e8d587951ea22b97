-- What one descriptor holds: the layout of its strings arrays, and its plain arrays. Source: this project.
use Rattle.std.specs.Prelude.{ℕ, ◌+◌, List, [], ◌∷◌, length, map, sum_by, slice_index_or, slice_set, if◌then◌else◌}
use Rattle.sa_base.specs.Items.{Item, MissingItem}
use Rattle.sa_base.specs.Deeds.{Place, Part, Read, Weighed, Counted, Pictured, PictureWeighed, Write, Put, Tidy, picture_weight}
use Rattle.sa_text.specs.Values.{item_of, value_of}
use Rattle.sa_alloc.specs.Layouts.{Layout, opening_layout, first_entry, put, value_at, stats_of, entry_images, arena_image}
use Rattle.sa_alloc.specs.Tidies.{tidy}
use Rattle.sa_plain.specs.Items.{item_weight}
use Rattle.sa_plain.specs.declared.kind.PlainKind.{PlainKind}
use Rattle.sa_plain.specs.declared.kind.PlainKind.TheVariants as kind
use Rattle.sa_plain.specs.Plains.{PlainValue, opening_plain, with_item, item_padded}
use Rattle.sa_journal.specs.Shapes.{Shape, KindSaid, Numbers, Flags, Bytes, Units}

-- what a descriptor holds: the layout of its strings arrays, and its plain arrays in order of declaration
pub record Contents : Type 0 where
  pub layout : Layout
  pub plains : List PlainValue

-- the kind of a plain array as a shape says it, and back
abbrev pub kind_said : PlainKind → KindSaid
kind_said kind.Int = Numbers
kind_said kind.Bool = Flags
kind_said (kind.Bytes width) = Bytes width
kind_said (kind.Fixed width) = Units width

abbrev pub kind_of : KindSaid → PlainKind
kind_of Numbers = kind.Int
kind_of Flags = kind.Bool
kind_of (Bytes width) = kind.Bytes width
kind_of (Units width) = kind.Fixed width

-- the shape of what a descriptor holds
abbrev pub shape_of : Contents → Shape
shape_of c = record { strings = c.layout.lengths; plains = map (λ p. (kind_said p.kind, length p.items)) c.plains }

-- what a descriptor of a shape holds before the first line
abbrev pub opening_of : Shape → Contents
opening_of s = record { layout = opening_layout s.strings; plains = map (λ p. opening_plain (kind_of p.0) p.1) s.plains }

-- the shape of a descriptor without arrays
abbrev pub no_shape : Shape
no_shape = record { strings = []; plains = [] }

-- the number of the entry at a place of a strings array
abbrev pub entry_at : Layout → Place → ℕ
entry_at l p = first_entry l.lengths p.array + p.place

-- the plain array of a number; an empty one where there is none
abbrev pub plain_at : List PlainValue → ℕ → PlainValue
plain_at plains k = slice_index_or plains k (opening_plain kind.Int 0)

-- the item at a place; missing where there is none
abbrev pub item_at : Contents → Place → Item
item_at c p = if p.is_strings then item_of (value_at c.layout (entry_at c.layout p)) else slice_index_or (plain_at c.plains p.array).items p.place MissingItem

-- what was read is read again: at the same places, what is there now
abbrev pub reread : Contents → Part → Part
reread c (Read items) = Read (map (λ i. (i.0, item_at c i.0)) items)
reread c (Weighed places weight) = Weighed places (sum_by (λ p. item_weight (item_at c p)) places)
reread c (Counted stats) = Counted (stats_of c.layout)
reread c (Pictured entries arena) = Pictured (entry_images c.layout) (arena_image c.layout)
reread c (PictureWeighed weight) = PictureWeighed (picture_weight (entry_images c.layout) (arena_image c.layout))

-- the put of an item at a place
abbrev pub put_item : Contents → Place → Item → Contents
put_item c p item = record {
  layout = if p.is_strings then put c.layout (entry_at c.layout p) (value_of item) else c.layout;
  plains = if p.is_strings then c.plains else slice_set c.plains p.array (with_item (plain_at c.plains p.array) p.place (item_padded (plain_at c.plains p.array).kind item));
}

-- a tidy of all that the strings arrays hold
abbrev pub tidied : Contents → Contents
tidied c = record { layout = tidy c.layout; plains = c.plains }

-- what a descriptor holds after writes, one after another
abbrev pub after_writes : Contents → List Write → Contents
after_writes c [] = c
after_writes c (Put p item ∷ ws) = after_writes (put_item c p item) ws
after_writes c (Tidy ∷ ws) = after_writes (tidied c) ws
