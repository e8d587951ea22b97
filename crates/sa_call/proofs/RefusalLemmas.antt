-- Items of which none is forbidden: their weights alone decide.
use Rattle.std.proofs.Common.{◌≡◌, ℕ, zero, suc, ℤ, ◌+◌, ◌<◌, ◌≤◌, ◌||◌, not, eqb, Bool, true, false, cond, ltb, List, [], ◌∷◌, length, map, replicate, get_or, None, refl, sym, ap, ◌∙◌, arith, inl, inr}
use Rattle.std.specs.List.{list_all, list_any, sum_by}
use Rattle.std.proofs.lemmas.Bool.{cases_Bool, eqb-true, false≢true, le-ltb}
use Rattle.std.proofs.lemmas.List.Sums.{sum_by-cons}
use Rattle.sa_base.specs.Items.{Item, MissingItem, IntegerItem, FlagItem, BytesItem, UnitsItem}
use Rattle.sa_text.specs.Values.{is_missing, item_of, stretched}
use Rattle.sa_text.specs.declared.value.Value.{Value}
use Rattle.sa_text.specs.declared.value.Value.TheVariants.{Missing, Of}
use Rattle.sa_plain.specs.Items.{item_weight}
use Rattle.sa_call.specs.Elements.{is_missing_item}
use Rattle.sa_call.specs.Forms.{item_in}
use Rattle.sa_call.specs.Refusals.{refused}

-- items that weigh no more than is left are not refused, where none of them is missing or that is not forbidden
pub light-none : (weight at : ℕ) (is : List Item) → weight + sum_by item_weight is ≤ 1048576 → refused false weight at is ≡ None
light-none weight at [] light = refl
light-none weight at (i ∷ is) light =
    let whole = sum_by-cons item_weight i is in
    let fits : ltb 1048576 (weight + item_weight i) ≡ false = le-ltb 1048576 (weight + item_weight i) (omega arith) in
    rw fits (light-none (weight + item_weight i) (at + 1) is (omega arith))

pub none-missing : (forbidden : Bool) (weight at : ℕ) (is : List Item) → list_any is_missing_item is ≡ false → weight + sum_by item_weight is ≤ 1048576 → refused forbidden weight at is ≡ None
none-missing true weight at [] present light = refl
none-missing true weight at (i ∷ is) present light =
    let whole = sum_by-cons item_weight i is in
    let fits : ltb 1048576 (weight + item_weight i) ≡ false = le-ltb 1048576 (weight + item_weight i) (omega arith) in
    let parts = or_parts (is_missing_item i) (list_any is_missing_item is) present in
    rw (parts.0, fits) (none-missing true (weight + item_weight i) (at + 1) is parts.1 (omega arith))
  where
    or_parts : (a b : Bool) → (a || b) ≡ false → (a ≡ false) × (b ≡ false)
    or_parts true b e = absurd (false≢true (sym e))
    or_parts false b e = (refl, e)
none-missing false weight at is present light = light-none weight at is light

-- values of which none is missing, one alone or many
all-present : (vs : List Value) → list_all (λ v. not (is_missing v)) vs ≡ true → list_any is_missing_item (map item_of vs) ≡ false
all-present [] present = refl
all-present (Missing ∷ vs) present = absurd (false≢true present)
all-present (Of text ∷ vs) present = all-present vs present

copies-present : (n : ℕ) (text : List ℕ) → list_any is_missing_item (map item_of (replicate n (Of text))) ≡ false
copies-present zero text = refl
copies-present (suc n) text = copies-present n text

pub stretched-present : (n : ℕ) (vs : List Value) → list_all (λ v. not (is_missing v)) vs ≡ true → list_any is_missing_item (map item_of (stretched n vs)) ≡ false
stretched-present n [] present = refl
stretched-present n (Missing ∷ []) present = absurd (false≢true present)
stretched-present n (Of text ∷ []) present = copies-present n text
stretched-present n (v ∷ w ∷ vs) present = all-present (v ∷ w ∷ vs) present

alike-present : {A : Type 0} (item : A → Item) → ((x : A) → is_missing_item (item x) ≡ false) → (xs : List A) → list_any is_missing_item (map item xs) ≡ false
alike-present item each [] = refl
alike-present item each (x ∷ xs) = ap (λ (b : Bool). b || list_any is_missing_item (map item xs)) (each x) ∙ alike-present item each xs

pub ints-present : (ns : List ℤ) → list_any is_missing_item (map (λ n. IntegerItem n) ns) ≡ false
ints-present ns = alike-present (λ n. IntegerItem n) (λ n. refl) ns

pub flags-present : (bs : List Bool) → list_any is_missing_item (map (λ b. FlagItem b) bs) ≡ false
flags-present bs = alike-present (λ b. FlagItem b) (λ b. refl) bs

pub bytes-present : (rows : List (List ℕ)) → list_any is_missing_item (map (λ row. BytesItem row) rows) ≡ false
bytes-present rows = alike-present (λ row. BytesItem row) (λ row. refl) rows

pub units-present : (rows : List (List ℕ)) → list_any is_missing_item (map (λ row. UnitsItem row) rows) ≡ false
units-present rows = alike-present (λ row. UnitsItem row) (λ row. refl) rows

-- a place of a list is that of its element
pub item-at : (is : List Item) (k : ℕ) → k < length is → item_in is k ≡ get_or is k MissingItem
item-at is k below = elim (cases_Bool (eqb (length is) 1)) [
  | inl one ↦ let n = eqb-true (length is) 1 one in let zero : k ≡ 0 = omega arith in rw one (ap (λ j. get_or is j MissingItem) (let e = zero in cc))
  | inr other ↦ rw other refl
]
