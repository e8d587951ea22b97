-- What a line changes in what one descriptor holds. Source: this project.
use Rattle.std.specs.Prelude.{◌≡◌, ◌<◌, ◌==◌, ℕ, true, false, List, [], ◌∷◌, length, map, zip, if◌then◌else◌}
use Rattle.sa_base.specs.Items.{Item}
use Rattle.sa_base.specs.Deeds.{Write, Put, Tidy, writes_at}
use Rattle.sa_text.specs.Values.{item_of}
use Rattle.sa_text.specs.declared.value.Value.{Value}
use Rattle.sa_alloc.specs.StoreValues.{Room, StoreValue}
use Rattle.sa_alloc.specs.Stores.{IsPlan, HasRoom, puts_of}
use Rattle.sa_alloc.specs.Tidies.{tidy}
use Rattle.sa_plain.specs.Items.{items_of}
use Rattle.sa_plain.specs.Plains.{PlainValue, FitPlain}
use Rattle.sa_journal.specs.Parties.{among}
use Rattle.sa_journal.specs.Said.{Said}
use Rattle.sa_hall.specs.declared.change.Change.{Change}
use Rattle.sa_hall.specs.declared.change.Change.TheVariants as change
use Rattle.sa_hall.specs.declared.work.Work.{Work}
use Rattle.sa_hall.specs.declared.work.Work.TheVariants as work
use Rattle.sa_hall.specs.Contents.{Contents, plain_at}
use Rattle.sa_hall.specs.Domains.{Kept, IsReadHere}

-- what a store and plain arrays hold
abbrev pub contents_of : StoreValue → List PlainValue → Contents
contents_of s plains = record { layout = s.contents.layout; plains = plains }

-- a store of what a descriptor holds, with this room, as far as a plan asks of it
abbrev pub store_with : Contents → Room → StoreValue
store_with c room = record { contents = record { layout = c.layout; slots = []; texts = [] }; room = room }

-- the put of a value into a strings array, and of an item into a plain array, at a place
abbrev pub write_of : ℕ → ℕ × Value → Write
write_of array p = Put (record { is_strings = true; array = array; place = p.0 }) (item_of p.1)

abbrev pub plain_write_of : ℕ → ℕ × Item → Write
plain_write_of array p = Put (record { is_strings = false; array = array; place = p.0 }) p.1

-- the writes that a change is
abbrev pub writes_by : Change → List Write
writes_by change.Nothing = []
writes_by (change.Strings plan) = map (write_of plan.array) plan.puts
writes_by (change.Plains array places items) = map (plain_write_of array) (zip places (items_of items))
writes_by (change.Tidied store) = Tidy ∷ []

-- the change that work makes in the descriptor of a number
abbrev pub change_at : Work → ℕ → Change
change_at work.Nothing d = change.Nothing
change_at (work.Strings number plan) d = if number == d then change.Strings plan else change.Nothing
change_at (work.Plains number array places items) d = if number == d then change.Plains array places items else change.Nothing
change_at (work.Tidied number store) d = if number == d then change.Tidied store else change.Nothing

-- A change can be made: a plan is one of the store's arrays, and the store has the room that it needs; items fit a plain array that exists; a tidied store has the tidy of the layout.
abbrev pub CanChange : Contents → Room → Change → Type 0
CanChange c room change.Nothing = Unit {0}
CanChange c room (change.Strings plan) = IsPlan c.layout.lengths plan × HasRoom (store_with c room) (puts_of c.layout.lengths plan)
CanChange c room (change.Plains array places items) = (array < length c.plains) × FitPlain (plain_at c.plains array) places items
CanChange c room (change.Tidied s) = s.contents.layout ≡ tidy c.layout

-- A deed fits one descriptor and what is changed there: it names the descriptor, read what that holds, and tells the writes that the change is, which can be made.
pub record FitsHere {D : Type 0} (said : Said) (change : Change) (k : Kept D) (room : Room) : Type 0 where
  pub named : among k.number said.locks ≡ true
  pub reads : IsReadHere k.number said k.contents
  pub writes : writes_at said.writes k.number ≡ writes_by change
  pub can : CanChange k.contents room change
