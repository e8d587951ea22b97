-- One put into what a descriptor holds and into the state that it shows, and puts one after another.
use Rattle.std.proofs.Common.{◌≡◌, ◌<◌, ◌+◌, ℕ, zero, suc, Bool, true, false, cond, List, [], ◌∷◌, length, map, take, drop, sum, get_or, set, length-set, refl, sym, ap, ◌∙◌, subst, arith}
use Rattle.std.specs.List.{AllByRecursion, zip}
use Rattle.std.proofs.lemmas.List.{length-map, length-drop, length-take-le, get_or-map, get_or-take, get_or-drop}
use Rattle.sa_base.specs.Items.{Item}
use Rattle.sa_base.specs.Deeds.{Place, Write, Put, Tidy}
use Rattle.sa_text.specs.Values.{value_of, item_of}
use Rattle.sa_text.specs.declared.value.Value.{Value}
use Rattle.sa_alloc.specs.Layouts as layouts
use Rattle.sa_alloc.specs.Layouts.{Layout, IsSound, first_entry, put, value_at, value_in}
use Rattle.sa_alloc.proofs.LayoutLemmas.{put-sound, put-lengths, put-entries, values-put}
use Rattle.sa_plain.specs.Plains as plains
use Rattle.sa_plain.specs.Plains.{PlainValue, with_item}
use Rattle.sa_plain.specs.Items.{items_of}
use Rattle.sa_plain.specs.declared.items.Items.{Items}
use Rattle.sa_plain.specs.declared.items.Items.TheVariants.{Values}
use Rattle.sa_view.specs.declared.view.View.{View}
use Rattle.sa_view.specs.Views.{places_of}
use Rattle.sa_call.specs.Decls.{Declared, is_strings_array}
use Rattle.sa_call.specs.Told.{place_in, index_at_home}
use Rattle.sa_hall.specs.Changes.{plain_write_of, write_of}
use Rattle.sa_hall.specs.Contents as contents
use Rattle.sa_hall.specs.Contents.{Contents, after_writes, entry_at, plain_at}
use Rattle.sa_loop.specs.Runs.{IsContents, IsShown, held_in, pieces, plain_shapes, shown, strings_in}
use Rattle.sa_loop.specs.States.{State, array_in}
use Rattle.sa_loop.specs.Writes.{put_item, puts_told, written}
use Rattle.sa_loop.proofs.PieceLemmas.{pieces-set, piece-at, sum-within}

-- the place of a write, where it is a strings array's, is one of the arrays of these lengths
abbrev pub IsWithin : List ℕ → Write → Type 0
IsWithin lengths (Put p item) = p.is_strings ≡ true → (p.array < length lengths) × (p.place < get_or lengths p.array 0)
IsWithin lengths Tidy = ⊥

-- one put, into a strings array or a plain one

abbrev pub contents_put : Bool → Contents → Place → Item → Contents
contents_put b c p item = record {
  layout = cond b (put c.layout (entry_at c.layout p) (value_of item)) c.layout;
  plains = cond b c.plains (set c.plains p.array (plains.put_item (plain_at c.plains p.array) p.place item));
}

abbrev pub state_put : Bool → State → Place → Item → State
state_put b s p item = record {
  strings = cond b (set s.strings p.array (set (array_in s p.array) p.place (value_of item))) s.strings;
  plains = cond b s.plains (set s.plains p.array (plains.put_item (plain_at s.plains p.array) p.place item));
  layout = cond b (put s.layout (entry_at s.layout p) (value_of item)) s.layout;
}

-- an item in one plain array leaves the kinds and lengths of all
plains-put : (ps : List PlainValue) (k place : ℕ) (item : Item) (none : PlainValue) → plain_shapes (set ps k (with_item (get_or ps k none) place item)) ≡ plain_shapes ps
plains-put [] k place item none = refl
plains-put (p ∷ ps) zero place item none = ap (λ n. (p.kind, n) ∷ plain_shapes ps) (length-set p.items place item)
plains-put (p ∷ ps) (suc k) place item none = ap (λ xs. (p.kind, length p.items) ∷ xs) (plains-put ps k place item none)

contents-put : (decls : Declared) (d : ℕ) (b : Bool) (c : Contents) (p : Place) (item : Item) → IsContents decls d c → IsContents decls d (contents_put b c p item)
contents-put decls d true c p item is =
    let entry = entry_at c.layout p in
    let v = value_of item in
    record {
      sound = put-sound c.layout entry v is.sound;
      lengths = put-lengths c.layout entry v ∙ is.lengths;
      states = put-entries c.layout entry v ∙ is.states ∙ ap sum (sym (put-lengths c.layout entry v));
      plains = is.plains;
    }
contents-put decls d false c p item is = record {
  sound = is.sound;
  lengths = is.lengths;
  states = is.states;
  plains = plains-put c.plains p.array p.place _ _ ∙ is.plains;
}

shown-put : (c : Contents) (b : Bool) (p : Place) (item : Item) → IsSound c.layout → (b ≡ true → (p.array < length c.layout.lengths) × (p.place < get_or c.layout.lengths p.array 0)) → shown (contents_put b c p item) ≡ state_put b (shown c) p item
shown-put c true p item sound inside =
    let l = c.layout in
    let v = value_of item in
    let after = put l (entry_at l p) v in
    let within = inside refl in
    let strings : strings_in after ≡ set (strings_in l) p.array (set (get_or (strings_in l) p.array []) p.place v) =
    ap (λ ns. pieces ns (layouts.values_of after)) (put-lengths l (entry_at l p) v)
    ∙ ap (pieces l.lengths) (values-put l (entry_at l p) v sound)
    ∙ pieces-set l.lengths (layouts.values_of l) p.array p.place v within.0 within.1 in
    ap (λ xs. let s : State = record { strings = xs; plains = c.plains; layout = after } in s) strings
shown-put c false p item sound inside = refl

-- it leaves the lengths
lengths-put : (c : Contents) (b : Bool) (p : Place) (item : Item) → (contents_put b c p item).layout.lengths ≡ c.layout.lengths
lengths-put c true p item = put-lengths c.layout (entry_at c.layout p) (value_of item)
lengths-put c false p item = refl

-- puts one after another

pub record IsStep (decls : Declared) (d : ℕ) (c : Contents) (ws : List Write) : Type 0 where
  pub contents : IsContents decls d (after_writes c ws)
  pub shows : shown (after_writes c ws) ≡ written (shown c) ws

pub steps : (decls : Declared) (d : ℕ) (c : Contents) (ws : List Write) → IsContents decls d c → AllByRecursion (IsWithin c.layout.lengths) ws → IsStep decls d c ws
steps decls d c [] is all = record { contents = is; shows = refl }
steps decls d c (Put p item ∷ ws) is all =
    let after = contents_put p.is_strings c p item in
    let inside = subst (λ ns. AllByRecursion (IsWithin ns) ws) (sym (lengths-put c p.is_strings p item)) all.1 in
    let rest = steps decls d after ws (contents-put decls d p.is_strings c p item is) inside in
    record { contents = rest.contents; shows = rest.shows ∙ ap (λ s. written s ws) (shown-put c p.is_strings p item is.sound all.0) }
steps decls d c (Tidy ∷ ws) is all = absurd all.0

-- a state stays the one that its contents show
pub written-shown : (decls : Declared) (d : ℕ) (s : State) (ws : List Write) → IsShown decls d s → AllByRecursion (IsWithin s.layout.lengths) ws → IsShown decls d (written s ws)
written-shown decls d s ws is all =
    let step = steps decls d (held_in s) ws is.contents all in
    let after : shown (after_writes (held_in s) ws) ≡ written s ws = step.shows ∙ sym (ap (λ x. written x ws) is.items) in
    subst (IsShown decls d) after (record { contents = step.contents; items = refl })

-- the writes of results, by the sort of the array

abbrev pub place_as : Bool → ℕ → ℕ → Place
place_as b array p = record { is_strings = b; array = array; place = p }

abbrev pub puts_as : Bool → ℕ → List ℕ → List Item → List Write
puts_as b array ps items = map (λ p. Put p.0 p.1) (zip (map (place_as b array) ps) items)

values-put_as : (array : ℕ) (ps : List ℕ) (vs : List Value) → puts_as true array ps (map item_of vs) ≡ map (write_of array) (zip ps vs)
values-put_as array [] vs = refl
values-put_as array (p ∷ ps) [] = refl
values-put_as array (p ∷ ps) (x ∷ vs) = ap (λ ws. Put (place_as true array p) (item_of x) ∷ ws) (values-put_as array ps vs)

items-put_as : (array : ℕ) (ps : List ℕ) (items : List Item) → puts_as false array ps items ≡ map (plain_write_of array) (zip ps items)
items-put_as array [] items = refl
items-put_as array (p ∷ ps) [] = refl
items-put_as array (p ∷ ps) (x ∷ items) = ap (λ ws. Put (place_as false array p) x ∷ ws) (items-put_as array ps items)

pub strings-told : (decls : Declared) (v : View) (vs : List Value) → is_strings_array decls v.array ≡ true → puts_told decls v (Values vs) ≡ map (write_of (index_at_home decls v.array)) (zip (places_of v) vs)
strings-told decls v vs strings = ap (λ (b : Bool). puts_as b (index_at_home decls v.array) (places_of v) (map item_of vs)) strings ∙ values-put_as (index_at_home decls v.array) (places_of v) vs

pub plains-told : (decls : Declared) (v : View) (items : Items) → is_strings_array decls v.array ≡ false → puts_told decls v items ≡ map (plain_write_of (index_at_home decls v.array)) (zip (places_of v) (items_of items))
plains-told decls v items other = ap (λ (b : Bool). puts_as b (index_at_home decls v.array) (places_of v) (items_of items)) other ∙ items-put_as (index_at_home decls v.array) (places_of v) (items_of items)

-- an entry and the items of its array

length-values : (l : Layout) → length (layouts.values_of l) ≡ length l.states
length-values l = length-map l.states (value_in l.extents)

pub length-strings : (l : Layout) (slot : ℕ) → slot < length l.lengths → length l.states ≡ sum l.lengths → length (get_or (strings_in l) slot []) ≡ get_or l.lengths slot 0
length-strings l slot below states =
    let within = sum-within l.lengths slot below in
    let long = length-values l in
    let back = length-drop (sum (take slot l.lengths)) (layouts.values_of l) in
    ap length (piece-at l.lengths (layouts.values_of l) slot below) ∙ length-take-le (get_or l.lengths slot 0) (drop (sum (take slot l.lengths)) (layouts.values_of l)) (omega arith)

pub entry-shown : (l : Layout) (slot p : ℕ) (v : Value) → slot < length l.lengths → p < get_or l.lengths slot 0 → length l.states ≡ sum l.lengths → value_at l (first_entry l.lengths slot + p) ≡ get_or (get_or (strings_in l) slot []) p v
entry-shown l slot p v below inside states =
    let f = first_entry l.lengths slot in
    let within = sum-within l.lengths slot below in
    let there : f + p < length l.states = omega arith in
    sym (get_or-map (value_in l.extents) l.states (f + p) layouts.Fresh v there)
    ∙ sym (get_or-drop f (layouts.values_of l) p v)
    ∙ sym (get_or-take (get_or l.lengths slot 0) (drop f (layouts.values_of l)) p v inside)
    ∙ ap (λ xs. get_or xs p v) (sym (piece-at l.lengths (layouts.values_of l) slot below))
