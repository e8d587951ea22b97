-- Worlds that calls leave: each descriptor's state is the one that its contents show.
use Rattle.std.proofs.Common.{◌≡◌, ◌<◌, ◌≤◌, ◌+◌, ◌≢◌, ℕ, zero, suc, Bool, true, false, inl, inr, nat_lt, List, [], ◌∷◌, length, map, sum, replicate, drop, set, length-set, get_or, get_or-set_same, get_or-set_other, Option, Some, None, refl, sym, ap, ◌∙◌, subst, arith}
use Rattle.std.specs.List.{AllByRecursion, zip}
use Rattle.std.proofs.lemmas.Bool.{and_parts, cases_lt, eq-eqb, false≢true, ltb-true}
use Rattle.std.proofs.lemmas.Bool.Decides.{eqb_tells}
use Rattle.std.proofs.lemmas.List.{get_or-map, get_or_past, length-map, length-replicate}
use Rattle.sa_base.specs.Items.{Item}
use Rattle.sa_base.specs.Deeds.{Put, writes_at}
use Rattle.sa_text.specs.Values.{item_of, value_of}
use Rattle.sa_text.specs.declared.value.Value.{Value}
use Rattle.sa_text.specs.declared.value.Value.TheVariants.{Missing, Of}
use Rattle.sa_alloc.specs.Layouts as layouts
use Rattle.sa_alloc.specs.Layouts.{Layout, opening_layout, first_entry, value_at, value_in, values_of}
use Rattle.sa_alloc.proofs.LayoutLemmas.{opening-sound}
use Rattle.sa_alloc.proofs.PlanLemmas.{places-few}
use Rattle.sa_plain.specs.Items.{items_of}
use Rattle.sa_plain.specs.Plains.{PlainValue, zero_item}
use Rattle.sa_plain.specs.declared.items.Items.{Items}
use Rattle.sa_plain.specs.declared.items.Items.TheVariants.{Values}
use Rattle.sa_plain.specs.declared.kind.PlainKind.{PlainKind}
use Rattle.sa_view.specs.declared.view.View.{View}
use Rattle.sa_view.specs.Views.{fits, places_of, put_at, read_at}
use Rattle.sa_view.proofs.PutLemmas.{put-is_read}
use Rattle.sa_view.proofs.ViewLemmas.{are-places}
use Rattle.sa_call.specs.declared.call.Call.{Call}
use Rattle.sa_call.specs.declared.decls.Kind.{Kind}
use Rattle.sa_call.specs.declared.decls.Kind.TheVariants as kind
use Rattle.sa_call.specs.Decls.{Declared, IsDeclared, home_of, is_strings, is_strings_array, kind_of, length_at}
use Rattle.sa_call.specs.Told.{index_at_home, output_is_at, place_in}
use Rattle.sa_call.specs.Valid.{IsCall, is_output_of, is_view_of}
use Rattle.sa_hall.specs.Contents.{Contents, plain_at}
use Rattle.sa_loop.specs.Held.{HasShape}
use Rattle.sa_loop.specs.Laws.{ShowsArray, ShowsItems, ShowsPlain, LayoutsShowItems, is_output, CallsLeaveRest}
use Rattle.sa_loop.specs.Plays.{play_world, world_left}
use Rattle.sa_loop.specs.Runs.{IsContents, IsShown, opening_holds, pieces, plain_shapes, shown, strings_in}
use Rattle.sa_loop.specs.States.{State, World, array_in, lengths_of, opening, opening_plains, plain_kind, plain_of, plains_of}
use Rattle.sa_loop.specs.Takes.{outcome_in}
use Rattle.sa_loop.specs.Writes.{put_item, puts_told, world_after, writes_told, written}
use Rattle.sa_loop.proofs.PieceLemmas.{pieces-replicate}
use Rattle.sa_loop.proofs.SlotLemmas.{length-few, no_plain, plain-shape, plain-within, slot-within, slot-length, slots-differ}
use Rattle.sa_loop.proofs.StepLemmas.{IsWithin, place_as, puts_as, written-shown, length-strings, entry-shown}

abbrev pub IsShownWorld : Declared → World → Type 0
IsShownWorld decls w = (d : ℕ) → IsShown decls d (w d)

-- the opening world

values-fresh : (n : ℕ) → map (value_in []) (replicate n layouts.Fresh) ≡ replicate n (Of [])
values-fresh zero = refl
values-fresh (suc n) = ap (λ vs. Of [] ∷ vs) (values-fresh n)

strings-opening : (lengths : List ℕ) → strings_in (opening_layout lengths) ≡ map (λ n. replicate n (Of [])) lengths
strings-opening lengths = ap (pieces lengths) (values-fresh (sum lengths)) ∙ pieces-replicate lengths (Of [])

plains-opening : (shapes : List (PlainKind × ℕ)) → plain_shapes (opening_plains shapes) ≡ shapes
plains-opening [] = refl
plains-opening (s ∷ shapes) = ap (λ n. (s.0, n) ∷ plain_shapes (opening_plains shapes)) (length-replicate s.1 (zero_item s.0)) ∙ ap (λ xs. s ∷ xs) (plains-opening shapes)

pub opening-contents : (decls : Declared) (d : ℕ) → IsContents decls d (opening_holds decls d)
opening-contents decls d = record {
  sound = opening-sound (lengths_of decls d);
  lengths = refl;
  states = length-replicate (sum (lengths_of decls d)) layouts.Fresh;
  plains = plains-opening (plains_of decls d);
}

pub opening-shown : (decls : Declared) → IsShownWorld decls (opening decls)
opening-shown decls d = record {
  contents = opening-contents decls d;
  items = ap (λ xs. let s : State = record { strings = xs; plains = opening_plains (plains_of decls d); layout = opening_layout (lengths_of decls d) } in s) (sym (strings-opening (lengths_of decls d)));
}

-- the writes to a view are within the arrays of its home

pub view-known : (decls : Declared) (v : View) → is_view_of decls v ≡ true → (v.array < length decls.arrays) × (fits (length_at decls.arrays v.array) v ≡ true)
view-known decls v valid =
    let both = and_parts (nat_lt v.array (length decls.arrays)) (fits (length_at decls.arrays v.array) v) valid in
    (ltb-true v.array (length decls.arrays) both.0, both.1)

zip-within : (b : Bool) (array : ℕ) (lengths : List ℕ) (n : ℕ) (ps : List ℕ) (items : List Item) → (b ≡ true → (array < length lengths) × (get_or lengths array 0 ≡ n))
    → AllByRecursion (λ (p : ℕ). p < n) ps → AllByRecursion (IsWithin lengths) (puts_as b array ps items)
zip-within b array lengths n [] items known all = tt
zip-within b array lengths n (p ∷ ps) [] known all = tt
zip-within b array lengths n (p ∷ ps) (i ∷ items) known all = (
  (λ strings. let at = known strings in let below = all.0 in let many = at.1 in (at.0, omega arith)),
  zip-within b array lengths n ps items known all.1,
)

pub results-within : (decls : Declared) (v : View) (results : Items) → is_view_of decls v ≡ true → AllByRecursion (IsWithin (lengths_of decls (home_of decls v.array))) (puts_told decls v results)
results-within decls v results valid =
    let known = view-known decls v valid in
    zip-within (is_strings_array decls v.array) (index_at_home decls v.array) (lengths_of decls (home_of decls v.array)) (length_at decls.arrays v.array) (places_of v) (items_of results)
    (λ strings. (slot-within decls v.array strings known.0, slot-length decls v.array strings known.0))
    (are-places v (length_at decls.arrays v.array) known.1).within

pub writes-within : (decls : Declared) (out : Option View) (results : Option Items) (d : ℕ) → is_output_of decls out ≡ true → AllByRecursion (IsWithin (lengths_of decls d)) (writes_at (writes_told decls out results) d)
writes-within decls None results d valid = tt
writes-within decls (Some v) None d valid = tt
writes-within decls (Some v) (Some results) d valid =
    elim (eqb_tells (home_of decls v.array) d) [
      | inl w ↦ rw w.0 (subst (λ h. AllByRecursion (IsWithin (lengths_of decls h)) (puts_told decls v results)) w.1 (results-within decls v results valid))
      | inr w ↦ rw w.0 tt
    ]

-- calls keep each state the one that its contents show

pub after-shown : (decls : Declared) (w : World) (call : Call) → IsCall decls call → IsShownWorld decls w → IsShownWorld decls (world_after decls w call)
after-shown decls w call valid are d =
    let ws = writes_at (writes_told decls call.out (outcome_in decls w call).results) d in
    written-shown decls d (w d) ws (are d) (subst (λ ns. AllByRecursion (IsWithin ns) ws) (sym (are d).contents.lengths) (writes-within decls call.out (outcome_in decls w call).results d valid.into))

pub left-shown : (decls : Declared) (w : World) (calls : List Call) → AllByRecursion (IsCall decls) calls → IsShownWorld decls w → IsShownWorld decls (world_left decls w calls)
left-shown decls w [] valid are = are
left-shown decls w (c ∷ cs) valid are = left-shown decls (world_after decls w c) cs valid.1 (after-shown decls w c valid.0 are)

pub play-shown : (decls : Declared) (calls : List Call) → AllByRecursion (IsCall decls) calls → IsShownWorld decls (play_world decls calls)
play-shown decls calls valid = left-shown decls (opening decls) calls valid (opening-shown decls)

-- a plain array is there, with its declared kind and as many items as declared

kind-back : (k : Kind) → is_strings k ≡ false → kind.Plain (plain_kind k) ≡ k
kind-back kind.Str other = absurd (false≢true (sym other))
kind-back (kind.Plain p) other = refl

pub record IsPlainThere (decls : Declared) (array : ℕ) (plains : List PlainValue) : Type 0 where
  pub below : index_at_home decls array < length plains
  pub kind_is : kind.Plain (plain_at plains (index_at_home decls array)).kind ≡ kind_of decls array
  pub count : length (plain_at plains (index_at_home decls array)).items ≡ length_at decls.arrays array

pub plain-there : (decls : Declared) (array : ℕ) (plains : List PlainValue) → plain_shapes plains ≡ plains_of decls (home_of decls array) → is_strings_array decls array ≡ false → array < length decls.arrays → IsPlainThere decls array plains
plain-there decls array plains shapes other below =
    let slot = index_at_home decls array in
    let shape : PlainValue → PlainKind × ℕ = λ p. (p.kind, length p.items) in
    let many = length-map plains shape in
    let known = ap length shapes in
    let inside = plain-within decls array other below in
    let there : slot < length plains = omega arith in
    let one : shape (plain_at plains slot) ≡ (plain_kind (kind_of decls array), length_at decls.arrays array) =
    sym (get_or-map shape plains slot _ no_plain there) ∙ ap (λ xs. get_or xs slot no_plain) shapes ∙ plain-shape decls array other below in
    record {
      below = there;
      kind_is = ap (λ (s : PlainKind × ℕ). kind.Plain s.0) one ∙ kind-back (kind_of decls array) other;
      count = ap (λ (s : PlainKind × ℕ). s.1) one;
    }

-- the items of an array stand in the layout of its home

shows-items : (decls : Declared) (w : World) (array : ℕ) → IsShown decls (home_of decls array) (w (home_of decls array)) → is_strings_array decls array ≡ true → array < length decls.arrays → ShowsItems decls w array
shows-items decls w array is strings below =
    let h = home_of decls array in
    let slot = index_at_home decls array in
    let l = (w h).layout in
    let inside : slot < length l.lengths = subst (λ ns. slot < length ns) (sym is.contents.lengths) (slot-within decls array strings below) in
    let count : get_or l.lengths slot 0 ≡ length_at decls.arrays array = ap (λ ns. get_or ns slot 0) is.contents.lengths ∙ slot-length decls array strings below in
    record {
      lengths = is.contents.lengths;
      count = ap (λ s. length (array_in s slot)) is.items ∙ length-strings l slot inside is.contents.states ∙ count;
      items = λ p within.
          ap (λ ns. value_at l (first_entry ns slot + p)) (sym is.contents.lengths)
          ∙ entry-shown l slot p Missing inside (omega arith) is.contents.states
          ∙ ap (λ s. get_or (array_in s slot) p Missing) (sym is.items);
    }

shows-plain : (decls : Declared) (w : World) (array : ℕ) → IsShown decls (home_of decls array) (w (home_of decls array)) → is_strings_array decls array ≡ false → array < length decls.arrays → ShowsPlain decls w array
shows-plain decls w array is other below =
    let there = plain-there decls array (w (home_of decls array)).plains is.contents.plains other below in
    record { kind_is = there.kind_is; count = there.count }

pub shows-array : (decls : Declared) (w : World) (array : ℕ) → IsShown decls (home_of decls array) (w (home_of decls array)) → array < length decls.arrays → ShowsArray (is_strings_array decls array) decls w array
shows-array decls w array is below = go (is_strings_array decls array) refl
  where
    go : (b : Bool) → is_strings_array decls array ≡ b → ShowsArray b decls w array
    go true strings = shows-items decls w array is strings below
    go false other = shows-plain decls w array is other below

pub layouts-show : LayoutsShowItems
layouts-show decls calls declared valid array below = shows-array decls (play_world decls calls) array (play-shown decls calls valid (home_of decls array)) below

-- the values at places of a strings array are those of its entries
pub values-shown : (decls : Declared) (l : Layout) (array : ℕ) (ps : List ℕ) → is_strings_array decls array ≡ true → array < length decls.arrays → l.lengths ≡ lengths_of decls (home_of decls array) → length l.states ≡ sum l.lengths
    → AllByRecursion (λ (p : ℕ). p < length_at decls.arrays array) ps
    → map (λ p. get_or (get_or (strings_in l) (index_at_home decls array) []) p Missing) ps ≡ map (λ p. value_at l (first_entry l.lengths (index_at_home decls array) + p)) ps
values-shown decls l array [] strings below lengths states all = refl
values-shown decls l array (p ∷ ps) strings below lengths states all =
    let slot = index_at_home decls array in
    let inside : slot < length l.lengths = subst (λ ns. slot < length ns) (sym lengths) (slot-within decls array strings below) in
    let count : get_or l.lengths slot 0 ≡ length_at decls.arrays array = ap (λ ns. get_or ns slot 0) lengths ∙ slot-length decls array strings below in
    let within = all.0 in
    let here = entry-shown l slot p Missing inside (omega arith) states in
    let rest = values-shown decls l array ps strings below lengths states all.1 in
    cc

-- a view of a declared array names few places
pub view-few : (decls : Declared) (v : View) → IsDeclared decls → v.array < length decls.arrays → fits (length_at decls.arrays v.array) v ≡ true → length (places_of v) ≤ 8192
view-few decls v declared below fit =
    let are = are-places v (length_at decls.arrays v.array) fit in
    let few = places-few (length_at decls.arrays v.array) (places_of v) are.distinct are.within in
    let small = length-few decls v.array declared below in
    omega arith

-- what a call leaves alone

leaves-homes : (decls : Declared) (s : State) (out : Option View) (results : Option Items) (d : ℕ) → output_is_at decls d out ≡ false → written s (writes_at (writes_told decls out results) d) ≡ s
leaves-homes decls s None results d apart = refl
leaves-homes decls s (Some v) None d apart = refl
leaves-homes decls s (Some v) (Some results) d apart = rw apart refl

-- puts leave each strings array but theirs, and each plain array but theirs

strings-put : (b : Bool) (slot at p : ℕ) (i : Item) (s : State) → (b ≡ true → slot ≢ at) → array_in (put_item s (place_as b at p) i) slot ≡ array_in s slot
strings-put true slot at p i s apart = get_or-set_other s.strings at slot _ [] (apart refl)
strings-put false slot at p i s apart = refl

zip-leaves : (b : Bool) (slot at : ℕ) (ps : List ℕ) (items : List Item) (s : State) → (b ≡ true → slot ≢ at) → array_in (written s (puts_as b at ps items)) slot ≡ array_in s slot
zip-leaves b slot at [] items s apart = refl
zip-leaves b slot at (p ∷ ps) [] s apart = refl
zip-leaves b slot at (p ∷ ps) (i ∷ items) s apart = zip-leaves b slot at ps items (put_item s (place_as b at p) i) apart ∙ strings-put b slot at p i s apart

plain-put : (b : Bool) (slot at p : ℕ) (i : Item) (s : State) → (b ≡ false → slot ≢ at) → plain_at (put_item s (place_as b at p) i).plains slot ≡ plain_at s.plains slot
plain-put true slot at p i s apart = refl
plain-put false slot at p i s apart = get_or-set_other s.plains at slot _ _ (apart refl)

zip-leaves_plains : (b : Bool) (slot at : ℕ) (ps : List ℕ) (items : List Item) (s : State) → (b ≡ false → slot ≢ at) → plain_at (written s (puts_as b at ps items)).plains slot ≡ plain_at s.plains slot
zip-leaves_plains b slot at [] items s apart = refl
zip-leaves_plains b slot at (p ∷ ps) [] s apart = refl
zip-leaves_plains b slot at (p ∷ ps) (i ∷ items) s apart = zip-leaves_plains b slot at ps items (put_item s (place_as b at p) i) apart ∙ plain-put b slot at p i s apart

other-array : (array : ℕ) (v : View) → is_output array (Some v) ≡ false → array ≢ v.array
other-array array v apart = λ one. let same = eq-eqb v.array array (sym one) in absurd (false≢true (sym apart ∙ same))

leaves-arrays : (decls : Declared) (s : State) (out : Option View) (results : Option Items) (array : ℕ) → is_output_of decls out ≡ true → array < length decls.arrays → is_strings_array decls array ≡ true → is_output array out ≡ false
    → array_in (written s (writes_at (writes_told decls out results) (home_of decls array))) (index_at_home decls array) ≡ array_in s (index_at_home decls array)
leaves-arrays decls s None results array valid below strings apart = refl
leaves-arrays decls s (Some v) None array valid below strings apart = refl
leaves-arrays decls s (Some v) (Some results) array valid below strings apart =
    let there = (view-known decls v valid).0 in
    let other = other-array array v apart in
    elim (eqb_tells (home_of decls v.array) (home_of decls array)) [
      | inl w ↦
          rw w.0 (zip-leaves (is_strings_array decls v.array) (index_at_home decls array) (index_at_home decls v.array) (places_of v) (items_of results) s
          (λ sort. slots-differ decls array v.array true strings sort below there other (sym w.1)))
      | inr w ↦ rw w.0 refl
    ]

leaves-plains : (decls : Declared) (s : State) (out : Option View) (results : Option Items) (array : ℕ) → is_output_of decls out ≡ true → array < length decls.arrays → is_strings_array decls array ≡ false → is_output array out ≡ false
    → plain_at (written s (writes_at (writes_told decls out results) (home_of decls array))).plains (index_at_home decls array) ≡ plain_at s.plains (index_at_home decls array)
leaves-plains decls s None results array valid below plain apart = refl
leaves-plains decls s (Some v) None array valid below plain apart = refl
leaves-plains decls s (Some v) (Some results) array valid below plain apart =
    let there = (view-known decls v valid).0 in
    let other = other-array array v apart in
    elim (eqb_tells (home_of decls v.array) (home_of decls array)) [
      | inl w ↦
          rw w.0 (zip-leaves_plains (is_strings_array decls v.array) (index_at_home decls array) (index_at_home decls v.array) (places_of v) (items_of results) s
          (λ sort. slots-differ decls array v.array false plain sort below there other (sym w.1)))
      | inr w ↦ rw w.0 refl
    ]

pieces-many : {A : Type 0} (ns : List ℕ) (xs : List A) → length (pieces ns xs) ≡ length ns
pieces-many [] xs = refl
pieces-many (n ∷ ns) xs = ap suc (pieces-many ns (drop n xs))

-- what is put at the places of a view of a strings array is what its array has there
written-put : (slot : ℕ) (ps : List ℕ) (items : List Item) (s : State) → slot < length s.strings → array_in (written s (puts_as true slot ps items)) slot ≡ put_at (array_in s slot) ps (map value_of items)
written-put slot [] items s within = refl
written-put slot (p ∷ ps) [] s within = refl
written-put slot (p ∷ ps) (i ∷ items) s within =
    let next = put_item s (place_as true slot p) i in
    let long : slot < length next.strings = omega (arith, length-set s.strings slot (set (array_in s slot) p (value_of i))) in
    written-put slot ps items next long
    ∙ ap (λ (xs : List Value). put_at xs ps (map value_of items)) (get_or-set_same s.strings slot (set (array_in s slot) p (value_of i)) [] within)

values-back : (vs : List Value) → map value_of (map item_of vs) ≡ vs
values-back [] = refl
values-back (Missing ∷ vs) = ap (λ ws. Missing ∷ ws) (values-back vs)
values-back (Of text ∷ vs) = ap (λ ws. Of text ∷ ws) (values-back vs)

pub put-there : (decls : Declared) (v : View) (c : Contents) (vs : List Value) → HasShape decls (home_of decls v.array) c → is_strings_array decls v.array ≡ true → v.array < length decls.arrays → fits (length_at decls.arrays v.array) v ≡ true → length vs ≡ v.count
    → read_at Missing (array_in (written (shown c) (puts_told decls v (Values vs))) (index_at_home decls v.array)) (places_of v) ≡ vs
put-there decls v c vs is sort below fit many =
    let slot = index_at_home decls v.array in
    let l = c.layout in
    let are = are-places v (length_at decls.arrays v.array) fit in
    let inside : slot < length l.lengths = subst (λ ns. slot < length ns) (sym is.lengths) (slot-within decls v.array sort below) in
    let count : get_or l.lengths slot 0 ≡ length_at decls.arrays v.array = ap (λ ns. get_or ns slot 0) is.lengths ∙ slot-length decls v.array sort below in
    let strings : slot < length (strings_in l) = omega (arith, pieces-many l.lengths (values_of l)) in
    let long : length (array_in (shown c) slot) ≡ length_at decls.arrays v.array = length-strings l slot inside is.states ∙ count in
    let within : AllByRecursion (λ (p : ℕ). p < length (array_in (shown c) slot)) (places_of v) = subst (λ (n : ℕ). AllByRecursion (λ (p : ℕ). p < n) (places_of v)) (sym long) are.within in
    ap (λ (b : Bool). read_at Missing (array_in (written (shown c) (puts_as b slot (places_of v) (map item_of vs))) slot) (places_of v)) sort
    ∙ ap (λ (xs : List Value). read_at Missing xs (places_of v)) (written-put slot (places_of v) (map item_of vs) (shown c) strings ∙ ap (put_at (array_in (shown c) slot) (places_of v)) (values-back vs))
    ∙ (put-is_read Missing (array_in (shown c) slot) (places_of v) vs (record { count = are.count ∙ sym many; distinct = are.distinct; within = within })).read

pub leaves-rest : CallsLeaveRest
leaves-rest decls w call valid = record {
  homes = λ d apart. leaves-homes decls (w d) call.out (outcome_in decls w call).results d apart;
  arrays = λ array below strings apart. leaves-arrays decls (w (home_of decls array)) call.out (outcome_in decls w call).results array valid.into below strings apart;
  plains = λ array below other apart. leaves-plains decls (w (home_of decls array)) call.out (outcome_in decls w call).results array valid.into below other apart;
}
