-- Readings after one another, and lists of items that are read one by one.
use Rattle.std.proofs.Common.{◌≡◌, ◌≤◌, ℕ, zero, suc, Bool, true, false, cond, eqb, nat_lt, List, [], ◌∷◌, ◌++◌, length, take, Option, Some, None, option_map, codes, refl, subst, arith, length-append}
use Rattle.std.specs.List.{AllByRecursion}
use Rattle.std.specs.Option.{IfSome}
use Rattle.std.proofs.lemmas.Bool.{ltb-true}
use Rattle.std.proofs.lemmas.List.{length-take}
use Rattle.std.proofs.lemmas.Option.{same_Some}
use Rattle.sa_lines.specs.Options.{◌>>=◌}
use Rattle.sa_script.specs.FixedTexts.{IsRow, behind_word, bytes_of, bytes_spelled, kept, units_of, units_spelled}
use Rattle.sa_script.specs.Items.{nothing_left, one_more, uncons, further_at, items_at, piece_at, piece_size, whole_item, bytes_at, units_at, list_as}
use Rattle.sa_script.specs.Limits.{most_items}
use Rattle.sa_script.proofs.ListLemmas.{all_push}

-- what was read of a reading after another, and of a choice of two
pub record Bound {A B : Type 0} (o : Option A) (f : A → Option B) (y : B) : Type 0 where
  pub value : A
  pub first : o ≡ Some value
  pub then : f value ≡ Some y

pub bound : {A B : Type 0} (o : Option A) (f : A → Option B) (y : B) → (o >>= f) ≡ Some y → Bound o f y
bound None f y e = cc
bound (Some x) f y e = record { value = x; first = refl; then = e }

pub chosen : {A : Type 0} (b : Bool) (o p : Option A) (y : A) (P : A → Type 0) → (o ≡ Some y → P y) → (p ≡ Some y → P y) → cond b o p ≡ Some y → P y
chosen true o p y P f g e = f e
chosen false o p y P f g e = g e

pub nothing_left_is : {A : Type 0} (a : A) (bs : List ℕ) (x : A) → nothing_left (a, bs) ≡ Some x → a ≡ x
nothing_left_is a [] x e = same_Some a x e
nothing_left_is a (b ∷ bs) x e = cc

-- lists: there is an item at least, there are no more than a list may have, and something holds of each
pub record IsRun {A : Type 0} (P : A → Type 0) (xs : List A) : Type 0 where
  pub some : 1 ≤ length xs
  pub few : length xs ≤ most_items
  pub all : AllByRecursion P xs

abbrev pub AreRead : {A : Type 0} → (A → Type 0) → Option (List A) → Type 0
AreRead P items = IfSome items (AllByRecursion P)

abbrev pub IsReadList : {A : Type 0} → (A → Type 0) → Option (List A) → Type 0
IsReadList P items = IfSome items (IsRun P)

pub all_read : {A : Type 0} (P : A → Type 0) (items : Option (List A)) → IsReadList P items → AreRead P items
all_read P None is = tt
all_read P (Some xs) is = is.all

pub pushed : {A : Type 0} (P : A → Type 0) (b : Bool) (xs : List A) (x : A) → nat_lt (length xs) most_items ≡ b → AllByRecursion P xs → P x → IsReadList P (cond b (Some (xs ++ x ∷ [])) None)
pushed P false xs x room before is = tt
pushed P true xs x room before is =
    let longer = length-append xs (x ∷ []) in
    let below = ltb-true (length xs) 8192 room in
    record { some = omega arith; few = omega arith; all = all_push P xs x before is }

pub one_more_list : {A : Type 0} (P : A → Type 0) (items : Option (List A)) (item : Option A) → AreRead P items → IfSome item P → IsReadList P (one_more items item)
one_more_list P None item before is = tt
one_more_list P (Some xs) None before is = tt
one_more_list P (Some xs) (Some x) before is = pushed P (nat_lt (length xs) most_items) xs x refl before is

-- each item that is read passes
abbrev pub Reads : {A : Type 0} → (A → Type 0) → (List ℕ → Option (Option A × List ℕ)) → Type 0
Reads {A} P item = (bs : List ℕ) (i : Option A × List ℕ) → item bs ≡ Some i → IfSome i.0 P

pub further_list : {A : Type 0} (P : A → Type 0) (item : List ℕ → Option (Option A × List ℕ)) (so_far : Option (List A)) (bs : List ℕ) (f : Option (List A) × ℕ × List ℕ)
    → Reads P item → AreRead P so_far → further_at item so_far bs ≡ Some f → IsReadList P f.0
further_list {A} P item so_far bs f reads before e =
    let i = bound (item bs) _ f e in
    let r = bound (uncons i.value.1) _ f i.then in
    subst (λ (x : Option (List A) × ℕ × List ℕ). IsReadList P x.0) (same_Some _ f r.then) (one_more_list P so_far i.value.0 before (reads bs i.value i.first))

pub items_list : {A : Type 0} (P : A → Type 0) (item : List ℕ → Option (Option A × List ℕ)) (left : ℕ) (so_far : Option (List A)) (bs : List ℕ) (r : Option (List A) × List ℕ)
    → Reads P item → AreRead P so_far → items_at item left so_far bs ≡ Some r → IsReadList P r.0
items_list P item zero so_far bs r reads before e = cc
items_list {A} P item (suc left) so_far bs r reads before e =
    let f = bound (further_at item so_far bs) _ r e in
    let is = further_list P item so_far bs f.value reads before f.first in
    chosen (eqb f.value.1 44) (items_at item left f.value.0 f.value.2) (cond (eqb f.value.1 41) (Some (f.value.0, f.value.2)) None) r (λ (x : Option (List A) × List ℕ). IsReadList P x.0)
    (λ more. items_list P item left f.value.0 f.value.2 r reads (all_read P f.value.0 is) more)
    (λ last. chosen (eqb f.value.1 41) (Some (f.value.0, f.value.2)) None r (λ (x : Option (List A) × List ℕ). IsReadList P x.0)
    (λ end. subst (λ (x : Option (List A) × List ℕ). IsReadList P x.0) (same_Some _ r end) is) (λ none. cc) last)
    f.then

pub read_list : {A : Type 0} (P : A → Type 0) (item : List ℕ → Option (Option A × List ℕ)) (token : List ℕ) (items : Option (List A)) → Reads P item → list_as item token ≡ Some items → IsReadList P items
read_list P item [] items reads e = cc
read_list {A} P item (b ∷ bs) items reads e =
    chosen (eqb b 40) (items_at item (length bs) (Some []) bs >>= nothing_left) (item (b ∷ bs) >>= λ i. nothing_left (one_more (Some []) i.0, i.1)) items (IsReadList P)
    (λ f.
    let r = bound (items_at item (length bs) (Some []) bs) nothing_left items f in
    subst (IsReadList P) (nothing_left_is r.value.0 r.value.1 items r.then) (items_list P item (length bs) (Some []) bs r.value reads tt r.first))
    (λ f.
    let i = bound (item (b ∷ bs)) _ items f in
    subst (IsReadList P) (nothing_left_is (one_more (Some []) i.value.0) i.value.1 items i.then) (one_more_list P (Some []) i.value.0 tt (reads (b ∷ bs) i.value i.first)))
    e

-- an item is any
abbrev pub IsAny : {A : Type 0} → A → Type 0
IsAny x = Unit {0}

any : {A : Type 0} (o : Option A) → IfSome o IsAny
any None = tt
any (Some x) = tt

pub any_read : {A : Type 0} (item : List ℕ → Option (Option A × List ℕ)) (bs : List ℕ) (i : Option A × List ℕ) → item bs ≡ Some i → IfSome i.0 IsAny
any_read item bs i e = any i.0

-- no more of a text of a fixed width is kept than a list may have
kept_row : (read : Option (List ℕ)) (row : List ℕ) → option_map kept read ≡ Some row → IsRow row
kept_row None row e = cc
kept_row (Some cells) row e = subst IsRow (same_Some _ row e) (let size = length-take 257 cells in omega arith)

whole_row : (read : List ℕ → Option (List ℕ)) (piece : List ℕ) (x : Option (List ℕ)) → ((row : List ℕ) → read piece ≡ Some row → IsRow row) → whole_item read piece ≡ Some x → IfSome x IsRow
whole_row read piece x rows e = go (read piece) rows e
  where
    go : (o : Option (List ℕ)) → ((row : List ℕ) → o ≡ Some row → IsRow row) → option_map (λ i. Some i) o ≡ Some x → IfSome x IsRow
    go None rows e = cc
    go (Some row) rows e = subst (λ o. IfSome o IsRow) (same_Some _ x e) (rows row refl)

piece_row : (read : List ℕ → Option (List ℕ)) → ((piece row : List ℕ) → read piece ≡ Some row → IsRow row) → Reads IsRow (piece_at (whole_item read))
piece_row read rows bs i e =
    let x = bound (whole_item read (take (piece_size bs) bs)) _ i e in
    subst (λ (y : Option (List ℕ) × List ℕ). IfSome y.0 IsRow) (same_Some _ i x.then) (whole_row read (take (piece_size bs) bs) x.value (rows (take (piece_size bs) bs)) x.first)

bytes_row : (piece row : List ℕ) → bytes_of piece ≡ Some row → IsRow row
bytes_row piece row e = let d = bound (behind_word (codes "hex:") piece) (λ digits. option_map kept (bytes_spelled digits)) row e in kept_row (bytes_spelled d.value) row d.then

units_row : (piece row : List ℕ) → units_of piece ≡ Some row → IsRow row
units_row piece row e = let d = bound (behind_word (codes "units:") piece) (λ units. option_map kept (units_spelled units)) row e in kept_row (units_spelled d.value) row d.then

pub bytes_narrow : (token : List ℕ) (rows : List (List ℕ)) → list_as bytes_at token ≡ Some (Some rows) → AllByRecursion IsRow rows
bytes_narrow token rows e = (read_list IsRow bytes_at token (Some rows) (piece_row bytes_of bytes_row) e).all

pub units_narrow : (token : List ℕ) (rows : List (List ℕ)) → list_as units_at token ≡ Some (Some rows) → AllByRecursion IsRow rows
units_narrow token rows e = (read_list IsRow units_at token (Some rows) (piece_row units_of units_row) e).all
