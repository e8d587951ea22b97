-- What a view that fits its array is in what its home holds.
use Rattle.std.proofs.Common.{◌≡◌, ◌<◌, ◌≤◌, ◌+◌, ℕ, zero, suc, true, false, List, [], ◌∷◌, length, map, sum, get_or, sym, ap, ◌∙◌, subst, arith, nat_eq}
use Rattle.std.specs.List.{All, AllByRecursion, IsDistinct, sum_by}
use Rattle.std.proofs.lemmas.List.Sums.{sum-map}
use Rattle.std.proofs.lemmas.Simd.{map-map}
use Rattle.sa_text.specs.Values.{value_weight, weight_of}
use Rattle.sa_alloc.specs.Layouts.{Layout, first_entry, value_at}
use Rattle.sa_plain.specs.Plains.{PlainValue}
use Rattle.sa_view.specs.declared.view.View.{View}
use Rattle.sa_view.specs.Views.{fits, fits_some, places_of}
use Rattle.sa_view.proofs.ViewLemmas.{are-places, fits-more}
use Rattle.sa_call.specs.declared.decls.Kind.TheVariants as kind
use Rattle.sa_call.specs.Decls.{Declared, IsDeclared, home_of, is_strings_array, kind_of, length_at}
use Rattle.sa_call.specs.Told.{index_at_home}
use Rattle.sa_hall.specs.Contents.{Contents, plain_at}
use Rattle.sa_loop.specs.Held.{IsPlainIn, IsStringsIn, IsViewIn}
use Rattle.sa_loop.specs.Runs.{values_in}
use Rattle.sa_loop.specs.States.{lengths_of}
use Rattle.sa_loop.proofs.SlotLemmas.{slot-within, slot-length, length-few}
use Rattle.sa_loop.proofs.WorldLemmas.{plain-there, values-shown, view-few}

-- a view is one of a strings array or of a plain one

pub as-strings : (decls : Declared) (v : View) (c : Contents) → IsViewIn decls v c → is_strings_array decls v.array ≡ true → IsStringsIn decls v c.layout
as-strings decls v c is strings = record { declared = is.declared; array = is.array; strings = strings; view = is.view; lengths = is.shape.lengths; states = is.shape.states }

pub as-plain : (decls : Declared) (v : View) (c : Contents) → IsViewIn decls v c → is_strings_array decls v.array ≡ false → IsPlainIn decls v c.plains
as-plain decls v c is other = record { declared = is.declared; array = is.array; plain = other; view = is.view; shapes = is.shape.plains }

-- these are the number of the view's array among those of its home, and its places, which are few places of that array, each once; and the view's items are the values there
pub record IsReady (decls : Declared) (l : Layout) (v : View) (slot : ℕ) (places : List ℕ) : Type 0 where
  pub index : slot < length l.lengths
  pub within : AllByRecursion (λ (p : ℕ). p < get_or l.lengths slot 0) places
  pub distinct : IsDistinct nat_eq places
  pub count : length places ≡ v.count
  pub few : length places ≤ 8192
  pub values : map (λ p. value_at l (first_entry l.lengths slot + p)) places ≡ values_in decls l v
  pub weight : sum_by (λ p. value_weight (value_at l (first_entry l.lengths slot + p))) places ≡ weight_of (values_in decls l v)

pub ready-at : (decls : Declared) (l : Layout) (v : View) → IsStringsIn decls v l → IsReady decls l v (index_at_home decls v.array) (places_of v)
ready-at decls l v is =
    let slot = index_at_home decls v.array in
    let are = are-places v (length_at decls.arrays v.array) is.view in
    let count : get_or l.lengths slot 0 ≡ length_at decls.arrays v.array = ap (λ ns. get_or ns slot 0) is.lengths ∙ slot-length decls v.array is.strings is.array in
    let value = λ (p : ℕ). value_at l (first_entry l.lengths slot + p) in
    let values = values-shown decls l v.array (places_of v) is.strings is.array is.lengths is.states are.within in
    let Within : ℕ → Type 0 = λ n. AllByRecursion (λ (p : ℕ). p < n) (places_of v) in
    record {
      index = subst (λ (ns : List ℕ). slot < length ns) (sym is.lengths) (slot-within decls v.array is.strings is.array);
      within = subst Within (sym count) are.within;
      distinct = are.distinct;
      count = are.count;
      few = view-few decls v is.declared is.array is.view;
      values = sym values;
      weight = sym (ap weight_of values ∙ sym (sum-map value_weight (map value (places_of v))) ∙ ap sum (map-map value_weight value (places_of v)) ∙ sum-map (λ p. value_weight (value p)) (places_of v));
    }

pub ready : (decls : Declared) (l : Layout) (v : View) (slot : ℕ) (places : List ℕ) → IsStringsIn decls v l → slot ≡ index_at_home decls v.array → places ≡ places_of v → IsReady decls l v slot places
ready decls l v slot places is at_slot at_places =
    subst (λ (k : ℕ). IsReady decls l v k places) (sym at_slot) (subst (λ (ps : List ℕ). IsReady decls l v (index_at_home decls v.array) ps) (sym at_places) (ready-at decls l v is))

-- the same of a view of a plain array: its places are few places of that array, which has the declared kind
pub record IsPlainReady (decls : Declared) (plains : List PlainValue) (v : View) (slot : ℕ) (places : List ℕ) : Type 0 where
  pub index : slot < length plains
  pub below : All (λ (p : ℕ). p < length (plain_at plains slot).items) places
  pub count : length places ≡ v.count
  pub few : length places ≤ 8192
  pub kind_is : kind.Plain (plain_at plains slot).kind ≡ kind_of decls v.array

all_at : (n : ℕ) (xs : List ℕ) (k d : ℕ) → AllByRecursion (λ (p : ℕ). p < n) xs → k < length xs → get_or xs k d < n
all_at n [] k d a below = absurd (omega arith)
all_at n (x ∷ xs) zero d a below = a.0
all_at n (x ∷ xs) (suc k) d a below = all_at n xs k d a.1 (omega arith)

pub plain-ready : (decls : Declared) (plains : List PlainValue) (v : View) (slot : ℕ) (places : List ℕ) → IsPlainIn decls v plains → slot ≡ index_at_home decls v.array → places ≡ places_of v → IsPlainReady decls plains v slot places
plain-ready decls plains v slot places is at_slot at_places =
    subst (λ (k : ℕ). IsPlainReady decls plains v k places) (sym at_slot) (subst (λ (ps : List ℕ). IsPlainReady decls plains v (index_at_home decls v.array) ps) (sym at_places) here)
  where
    here : IsPlainReady decls plains v (index_at_home decls v.array) (places_of v)
    here =
        let are = are-places v (length_at decls.arrays v.array) is.view in
        let there = plain-there decls v.array plains is.shapes is.plain is.array in
        record {
          index = there.below;
          below = λ k d inside. subst (λ (n : ℕ). get_or (places_of v) k d < n) (sym there.count) (all_at (length_at decls.arrays v.array) (places_of v) k d are.within inside);
          count = are.count;
          few = view-few decls v is.declared is.array is.view;
          kind_is = there.kind_is;
        }

-- the view fits some array
pub fits-some : (decls : Declared) (v : View) → IsDeclared decls → v.array < length decls.arrays → fits (length_at decls.arrays v.array) v ≡ true → fits_some v ≡ true
fits-some decls v declared array fit =
    let short = length-few decls v.array declared array in
    fits-more v (length_at decls.arrays v.array) 4294967295 (omega arith) fit
