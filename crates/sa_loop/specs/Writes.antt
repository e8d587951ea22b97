-- What the results of a call make of a state: one put after another.
use Rattle.std.specs.Prelude.{ℕ, List, [], ◌∷◌, map, zip, slice_set, Option, Some, None, if◌then◌else◌}
use Rattle.sa_base.specs.Items.{Item}
use Rattle.sa_base.specs.Deeds.{Place, Write, Put, Tidy, writes_at}
use Rattle.sa_text.specs.Values.{value_of}
use Rattle.sa_view.specs.declared.view.View.{View}
use Rattle.sa_alloc.specs.Layouts.{put}
use Rattle.sa_alloc.specs.Tidies.{tidy}
use Rattle.sa_plain.specs.Items.{items_of}
use Rattle.sa_plain.specs.Plains as plains
use Rattle.sa_plain.specs.declared.items.Items.{Items}
use Rattle.sa_call.specs.declared.call.Call.{Call}
use Rattle.sa_call.specs.declared.reply.Reply.{Reply}
use Rattle.sa_call.specs.Decls.{Declared, home_of}
use Rattle.sa_call.specs.Told.{places_in}
use Rattle.sa_hall.specs.Contents.{entry_at, plain_at}
use Rattle.sa_loop.specs.States.{State, World, array_in}
use Rattle.sa_loop.specs.Takes.{outcome_in}

-- the writes to each descriptor, by its number
abbrev pub Writes : Type 0
Writes = List (ℕ × List Write)

abbrev pub puts_told : Declared → View → Items → List Write
puts_told decls out results = map (λ p. Put p.0 p.1) (zip (places_in decls out) (items_of results))

-- the results are put at the places of the output, in order; without an output or results nothing is written
abbrev pub writes_told : Declared → Option View → Option Items → Writes
writes_told decls None results = []
writes_told decls (Some out) None = []
writes_told decls (Some out) (Some results) = (home_of decls out.array, puts_told decls out results) ∷ []

-- the put of an item at a place of a state
abbrev pub put_item : State → Place → Item → State
put_item s p item = record {
  strings = if p.is_strings then slice_set s.strings p.array (slice_set (array_in s p.array) p.place (value_of item)) else s.strings;
  plains = if p.is_strings then s.plains else slice_set s.plains p.array (plains.put_item (plain_at s.plains p.array) p.place item);
  layout = if p.is_strings then put s.layout (entry_at s.layout p) (value_of item) else s.layout;
}

-- a state after a tidy
abbrev pub tidied : State → State
tidied s = record { strings = s.strings; plains = s.plains; layout = tidy s.layout }

-- a state after writes, one after another
abbrev pub written : State → List Write → State
written s [] = s
written s (Put p item ∷ ws) = written (put_item s p item) ws
written s (Tidy ∷ ws) = written (tidied s) ws

-- The effect of a call: its reply, and the world in which its results were put into the array of its output, and into the layout of that one's home where it is a strings array, in order.
abbrev pub reply_in : Declared → World → Call → Reply
reply_in decls w call = (outcome_in decls w call).reply

abbrev pub world_after : Declared → World → Call → World
world_after decls w call = λ d. written (w d) (writes_at (writes_told decls call.out (outcome_in decls w call).results) d)
