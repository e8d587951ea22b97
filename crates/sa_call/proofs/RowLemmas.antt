-- What a row has at an element's place.
use Rattle.std.proofs.Common.{◌≡◌, inl, inr, ℕ, ℤ, pos, zero, suc, ◌||◌, eqb, leb, Bool, true, false, cond, List, [], ◌∷◌, length, map, get_or, slice_get, Option, Some, None, refl, sym, ap, ◌∙◌}
use Rattle.std.specs.List.{list_any}
use Rattle.std.proofs.lemmas.Bool.{le-leb, lt-leb}
use Rattle.std.proofs.lemmas.Option.{slice_get_cases}
use Rattle.std.proofs.lemmas.List.{length-map}
use Rattle.sa_base.specs.Items.{Item, MissingItem, IntegerItem, FlagItem, BytesItem, UnitsItem}
use Rattle.sa_text.specs.Values.{is_missing, item_of}
use Rattle.sa_text.specs.declared.value.Value.{Value}
use Rattle.sa_text.specs.declared.value.Value.TheVariants.{Missing, Of}
use Rattle.sa_plain.specs.Items.{count_of, items_of}
use Rattle.sa_plain.specs.declared.items.Items.{Items}
use Rattle.sa_plain.specs.declared.items.Items.TheVariants.{Values, Ints, Flags, Bytes, Units}
use Rattle.sa_call.specs.Elements.{is_missing_item, item_is_missing}
use Rattle.sa_call.specs.Forms.{item_in, number_at, number_in, place_in, text_at, text_in}

pub any-items : {A : Type 0} (items : A → Items) (at : ℕ) (cs : List A) → list_any (λ (c : A). item_is_missing (items c) at) cs ≡ list_any (λ xs. is_missing_item (item_in xs at)) (map (λ (c : A). items_of (items c)) cs)
any-items items at [] = refl
any-items items at (c ∷ cs) = ap (λ (b : Bool). is_missing_item (item_in (items_of (items c)) at) || b) (any-items items at cs)

-- the item that is at a place, a missing one where there is none
abbrev found_or : {A : Type 0} → (A → Item) → Option A → Item
found_or item None = MissingItem
found_or item (Some x) = item x

abbrev item_or : Option Value → Item
item_or o = found_or item_of o

abbrev number_or : Option ℤ → Item
number_or o = found_or (λ n. IntegerItem n) o

item-there : {A : Type 0} (item : A → Item) (xs : List A) (k : ℕ) → get_or (map item xs) k MissingItem ≡ found_or item (slice_get xs k)
item-there item [] k = refl
item-there item (x ∷ xs) zero = refl
item-there item (x ∷ xs) (suc k) = item-there item xs k

abbrev place_of : ℕ → ℕ → ℕ
place_of count at = cond (eqb count 1) 0 at

found-in : {A : Type 0} (item : A → Item) (xs : List A) (at : ℕ) → item_in (map item xs) at ≡ found_or item (slice_get xs (place_of (length xs) at))
found-in item xs at = ap (λ n. get_or (map item xs) (place_of n at) MissingItem) (length-map xs item) ∙ item-there item xs (place_of (length xs) at)

-- what holds of each item of a list, and of a missing one, holds at each place
alike : {A B : Type 0} (item : A → Item) (said : Item → B) (b : B) → ((x : A) → b ≡ said (item x)) → b ≡ said MissingItem → (xs : List A) (at : ℕ) → b ≡ said (item_in (map item xs) at)
alike item said b each none xs at = go (slice_get xs (place_of (length xs) at)) ∙ ap said (sym (found-in item xs at))
  where
    go : (o : Option _) → b ≡ said (found_or item o)
    go None = none
    go (Some x) = each x

value-in : (vs : List Value) (at : ℕ) → item_in (map item_of vs) at ≡ item_or (slice_get vs (place_in (Values vs) at))
value-in vs at = found-in item_of vs at

number-in : (ns : List ℤ) (at : ℕ) → item_in (map (λ n. IntegerItem n) ns) at ≡ number_or (slice_get ns (place_in (Ints ns) at))
number-in ns at = found-in (λ n. IntegerItem n) ns at

-- the text at a place
pub text-of : (blank : List ℕ) (items : Items) (vs : List Value) (at : ℕ) (o : Option Value) → items ≡ Values vs → slice_get vs (place_in items at) ≡ o → text_in blank (item_or o) ≡ text_at blank items at
text-of blank items vs at o is there =
    let here : slice_get vs (place_in (Values vs) at) ≡ o = ap (λ i. slice_get vs (place_in i at)) (sym is) ∙ there in
    ap (λ x. text_in blank (item_or x)) (sym here) ∙ ap (text_in blank) (sym (value-in vs at)) ∙ ap (λ i. text_at blank i at) (sym is)

pub text-others : (blank : List ℕ) (items : Items) (at : ℕ) → ((vs : List Value) → items ≡ Values vs → ⊥) → blank ≡ text_at blank items at
text-others blank (Values vs) at other = absurd (other vs refl)
text-others blank (Ints ns) at other = alike (λ n. IntegerItem n) (text_in blank) blank (λ n. refl) refl ns at
text-others blank (Flags bs) at other = alike (λ b. FlagItem b) (text_in blank) blank (λ b. refl) refl bs at
text-others blank (Bytes rows) at other = alike (λ bytes. BytesItem bytes) (text_in blank) blank (λ bytes. refl) refl rows at
text-others blank (Units rows) at other = alike (λ units. UnitsItem units) (text_in blank) blank (λ units. refl) refl rows at

-- the number there
pub number-of : (items : Items) (ns : List ℤ) (at : ℕ) (o : Option ℤ) → items ≡ Ints ns → slice_get ns (place_in items at) ≡ o → number_in (number_or o) ≡ number_at items at
number-of items ns at o is there =
    let here : slice_get ns (place_in (Ints ns) at) ≡ o = ap (λ i. slice_get ns (place_in i at)) (sym is) ∙ there in
    ap (λ x. number_in (number_or x)) (sym here) ∙ ap number_in (sym (number-in ns at)) ∙ ap (λ i. number_at i at) (sym is)

no-number : (v : Value) → pos 0 ≡ number_in (item_of v)
no-number Missing = refl
no-number (Of text) = refl

pub number-others : (items : Items) (at : ℕ) → ((ns : List ℤ) → items ≡ Ints ns → ⊥) → pos 0 ≡ number_at items at
number-others (Values vs) at other = alike item_of number_in (pos 0) no-number refl vs at
number-others (Ints ns) at other = absurd (other ns refl)
number-others (Flags bs) at other = alike (λ b. FlagItem b) number_in (pos 0) (λ b. refl) refl bs at
number-others (Bytes rows) at other = alike (λ bytes. BytesItem bytes) number_in (pos 0) (λ bytes. refl) refl rows at
number-others (Units rows) at other = alike (λ units. UnitsItem units) number_in (pos 0) (λ units. refl) refl rows at

-- whether the item there is missing
abbrev missing_or : Option Value → Bool
missing_or None = true
missing_or (Some v) = is_missing v

same-missing : (o : Option Value) → missing_or o ≡ is_missing_item (item_or o)
same-missing None = refl
same-missing (Some Missing) = refl
same-missing (Some (Of text)) = refl

pub missing-of : (items : Items) (vs : List Value) (at : ℕ) (o : Option Value) → items ≡ Values vs → slice_get vs (place_in items at) ≡ o → missing_or o ≡ item_is_missing items at
missing-of items vs at o is there =
    let here : slice_get vs (place_in (Values vs) at) ≡ o = ap (λ i. slice_get vs (place_in i at)) (sym is) ∙ there in
    ap missing_or (sym here) ∙ same-missing (slice_get vs (place_in (Values vs) at)) ∙ ap is_missing_item (sym (value-in vs at)) ∙ ap (λ i. item_is_missing i at) (sym is)

past-there : {A : Type 0} (item : A → Item) → ((x : A) → false ≡ is_missing_item (item x)) → (xs : List A) (k : ℕ) → leb (length xs) k ≡ is_missing_item (found_or item (slice_get xs k))
past-there item each xs k =
    elim (slice_get_cases xs k).1 [
      | inl found ↦ lt-leb (length xs) k found.1 ∙ each found.0 ∙ ap (λ o. is_missing_item (found_or item o)) (sym found.2)
      | inr past ↦ le-leb (length xs) k past.0 ∙ ap (λ o. is_missing_item (found_or item o)) (sym past.1)
    ]

past-in : {A : Type 0} (item : A → Item) → ((x : A) → false ≡ is_missing_item (item x)) → (xs : List A) (at : ℕ) → leb (length xs) (place_of (length xs) at) ≡ is_missing_item (item_in (map item xs) at)
past-in item each xs at = past-there item each xs (place_of (length xs) at) ∙ ap is_missing_item (sym (found-in item xs at))

pub missing-others : (items : Items) (at : ℕ) → ((vs : List Value) → items ≡ Values vs → ⊥) → leb (count_of items) (place_in items at) ≡ item_is_missing items at
missing-others (Values vs) at other = absurd (other vs refl)
missing-others (Ints ns) at other = past-in (λ n. IntegerItem n) (λ n. refl) ns at
missing-others (Flags bs) at other = past-in (λ b. FlagItem b) (λ b. refl) bs at
missing-others (Bytes rows) at other = past-in (λ bytes. BytesItem bytes) (λ bytes. refl) rows at
missing-others (Units rows) at other = past-in (λ units. UnitsItem units) (λ units. refl) rows at
