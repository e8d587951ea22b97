-- The final arrays and statistics as the stores show them.
use Rattle.std.proofs.Common.{◌≡◌, ℕ, zero, suc, ◌+◌, ◌<◌, ◌≤◌, cond, List, [], ◌∷◌, ◌++◌, length, map, take, drop, drop-cons, get_or, slice_get, sum, append-nil, append_assoc, Some, None, refl, sym, ap, ap₂, ◌∙◌, arith}
use Rattle.std.specs.List.{join_by, flat_map, range_with_len}
use Rattle.std.proofs.lemmas.Bool.{lt-ltb}
use Rattle.std.proofs.lemmas.Grind.{flat_map-append}
use Rattle.std.proofs.lemmas.List.{take_more, length-take-le}
use Rattle.std.proofs.Math.Seq.{take_all}
use Rattle.sa_text.specs.declared.value.Value.{Value}
use Rattle.sa_text.specs.declared.value.Value.TheVariants.{Missing}
use Rattle.sa_plain.specs.Written.{value_bytes}
use Rattle.sa_alloc.specs.Copies.{value_seen, IsSeenText}
use Rattle.sa_alloc.specs.Layouts.{Layout, stats_of, first_entry, value_at}
use Rattle.sa_alloc.specs.Stores.{Shows}
use Rattle.sa_alloc.specs.declared.seen.Seen.{Seen}
use Rattle.sa_alloc.specs.declared.seen.Seen.TheVariants as seen
use Rattle.sa_plain.specs.declared.items.Items.TheVariants.{Values, Ints, Flags, Bytes, Units}
use Rattle.std.proofs.lemmas.Option.{get_or_from_slice_get}
use Rattle.sa_base.specs.Items.{Item, MissingItem}
use Rattle.sa_plain.specs.Items.{items_of}
use Rattle.sa_plain.specs.Plains.{FitKind, PlainValue, items_at, opening_plain}
use Rattle.sa_plain.specs.declared.items.Items.{Items}
use Rattle.sa_plain.specs.declared.kind.PlainKind.{PlainKind}
use Rattle.sa_plain.specs.declared.kind.PlainKind.TheVariants as plain
use Rattle.sa_call.specs.Kinds.{items_as, list_kind, plain_items}
use Rattle.sa_call.proofs.KindLemmas.{items-back}
use Rattle.sa_hall.specs.Contents.{Contents, plain_at}
use Rattle.sa_call.specs.declared.decls.ArrayDecl.{ArrayDecl}
use Rattle.sa_call.specs.Decls.{Declared, IsDeclared, array_at, home_of, is_strings_array}
use Rattle.sa_loop.specs.Gathers.{plain_in, store_at}
use Rattle.sa_loop.specs.Runs.{shown, strings_in, world_of}
use Rattle.sa_loop.proofs.StepLemmas.{entry-shown}
use Rattle.sa_loop.specs.States.{State, World, array_in}
use Rattle.sa_call.specs.Told.{index_at_home}
use Rattle.sa_report.specs.Plays.{contents_at, contents_of, plain_list, stats_in}
use Rattle.sa_report.proofs.StepLemmas.{made-alike, all-at}

-- what a load shows
pub shows-value : (s : Seen) (v : Value) → Shows s v → value_seen s ≡ v
shows-value seen.Missing v h = sym h
shows-value (seen.Bytes bytes) v h = sym h.0

pub shows-text : (s : Seen) (v : Value) → Shows s v → IsSeenText s
shows-text seen.Missing v h = tt
shows-text (seen.Bytes bytes) v h = (h.1, h.2)

-- the home of an array is declared
pub home-declared : (decls : Declared) (array : ℕ) → IsDeclared decls → array < length decls.arrays → home_of decls array < length decls.descrs
home-declared decls array declared below = all-at (λ (a : ArrayDecl). a.home < length decls.descrs) decls.arrays array (array_at [] 0) declared.homes below

-- the store of a declared descriptor exists, and its layout is the one that was asked for
store-some : (count : ℕ) (holds : ℕ → Contents) (number : ℕ) → number < count → store_at count holds number ≡ Some (holds number).layout
store-some count holds number below = let t = lt-ltb number count below in rw t refl

pub no-store : (count : ℕ) (holds : ℕ → Contents) (number : ℕ) → number < count → None ≡ store_at count holds number → ⊥
no-store count holds number below none = let some = store-some count holds number below in cc

pub store-layout : (count : ℕ) (holds : ℕ → Contents) (number : ℕ) (l : Layout) → number < count → Some l ≡ store_at count holds number → l ≡ (holds number).layout
store-layout count holds number l below got = let some = store-some count holds number below in cc

-- a plain array that is got is the one that was asked for, and where none is got it has no items
plain-some : (count : ℕ) (holds : ℕ → Contents) (number k : ℕ) → number < count → plain_in count holds number k ≡ slice_get (holds number).plains k
plain-some count holds number k below = let t = lt-ltb number count below in rw t refl

pub plain-got : (count : ℕ) (holds : ℕ → Contents) (number k : ℕ) (p : PlainValue) → number < count → Some p ≡ plain_in count holds number k → p ≡ plain_at (holds number).plains k
plain-got count holds number k p below got =
    let there : slice_get (holds number).plains k ≡ Some p = sym (plain-some count holds number k below) ∙ sym got in
    sym (get_or_from_slice_get (holds number).plains k p (opening_plain plain.Int 0) there)

pub no-plain : (count : ℕ) (holds : ℕ → Contents) (number k : ℕ) → number < count → None ≡ plain_in count holds number k → plain_list (plain_at (holds number).plains k) ≡ Ints []
no-plain count holds number k below none = ap plain_list (empty (holds number).plains k (sym (plain-some count holds number k below) ∙ sym none))
  where
    empty : (ps : List PlainValue) (k : ℕ) → slice_get ps k ≡ None → plain_at ps k ≡ opening_plain plain.Int 0
    empty [] k gone = refl
    empty (p ∷ ps) zero gone = cc
    empty (p ∷ ps) (suc k) gone = empty ps k gone

-- one place more
pub range-more : (a n j : ℕ) → a + n ≡ j → range_with_len a (n + 1) ≡ range_with_len a n ++ j ∷ []
range-more a zero j e = let same : a ≡ j = omega arith in ap (λ k. k ∷ []) same
range-more a (suc n) j e = let next : suc n + 1 ≡ suc (n + 1) = omega arith in ap (range_with_len a) next ∙ ap (λ ks. a ∷ ks) (range-more (a + 1) n j (omega arith))

-- each place is below the number of places
range-length : (a n : ℕ) → length (range_with_len a n) ≡ n
range-length a zero = refl
range-length a (suc n) = ap suc (range-length (a + 1) n)

range-at : (a n k d : ℕ) → k < n → get_or (range_with_len a n) k d ≡ a + k
range-at a zero k d below = absurd (omega arith)
range-at a (suc n) zero d below = let same : a ≡ a + 0 = omega arith in same
range-at a (suc n) (suc k) d below = let next : a + 1 + k ≡ a + suc k = omega arith in range-at (a + 1) n k d (omega arith) ∙ next

pub places-below : (ks : List ℕ) (n m : ℕ) → ks ≡ range_with_len 0 n → n ≡ m → (k d : ℕ) → k < length ks → get_or ks k d < m
places-below ks n m same many k d below =
    let long = ap length same ∙ range-length 0 n in
    let at = ap (λ (xs : List ℕ). get_or xs k d) same ∙ range-at 0 n k d (omega arith) in
    omega arith

-- the items of a plain array at all its places are its items
each-at : (xs : List Item) (k n : ℕ) → k + n ≤ length xs → map (λ j. get_or xs j MissingItem) (range_with_len k n) ≡ take n (drop k xs)
each-at xs k zero within = refl
each-at xs k (suc n) within =
    let below : k < length xs = omega arith in
    let next : k + 1 ≡ suc k = omega arith in
    let rest = each-at xs (k + 1) n (omega arith) ∙ ap (λ j. take n (drop j xs)) next in
    rw (drop-cons xs k MissingItem below) (ap (λ ys. get_or xs k MissingItem ∷ ys) rest)

fit-kind : (k : PlainKind) (items : Items) → FitKind k items → list_kind items ≡ plain_items k
fit-kind plain.Int (Ints ns) fit = refl
fit-kind plain.Bool (Flags bs) fit = refl
fit-kind (plain.Bytes w) (Bytes rows) fit = refl
fit-kind (plain.Fixed w) (Units rows) fit = refl
fit-kind plain.Int (Values vs) fit = absurd fit
fit-kind plain.Int (Flags bs) fit = absurd fit
fit-kind plain.Int (Bytes rows) fit = absurd fit
fit-kind plain.Int (Units rows) fit = absurd fit
fit-kind plain.Bool (Values vs) fit = absurd fit
fit-kind plain.Bool (Ints ns) fit = absurd fit
fit-kind plain.Bool (Bytes rows) fit = absurd fit
fit-kind plain.Bool (Units rows) fit = absurd fit
fit-kind (plain.Bytes w) (Values vs) fit = absurd fit
fit-kind (plain.Bytes w) (Ints ns) fit = absurd fit
fit-kind (plain.Bytes w) (Flags bs) fit = absurd fit
fit-kind (plain.Bytes w) (Units rows) fit = absurd fit
fit-kind (plain.Fixed w) (Values vs) fit = absurd fit
fit-kind (plain.Fixed w) (Ints ns) fit = absurd fit
fit-kind (plain.Fixed w) (Flags bs) fit = absurd fit
fit-kind (plain.Fixed w) (Bytes rows) fit = absurd fit

pub all-items : (p : PlainValue) (n : ℕ) (items : Items) → n ≡ length p.items → items_of items ≡ items_at p (range_with_len 0 n) → FitKind p.kind items → items ≡ plain_list p
all-items p n items long same fit =
    let all : items_at p (range_with_len 0 n) ≡ p.items = each-at p.items 0 n (omega arith) ∙ take_all n p.items (omega arith) in
    items-back items ∙ ap₂ items_as (fit-kind p.kind items fit) (same ∙ all)

-- contents that show the world of a play have its arrays and its statistics
pub contents-alike : (decls : Declared) (holds : ℕ → Contents) (w : World) → IsDeclared decls → ((d : ℕ) → d < length decls.descrs → shown (holds d) ≡ w d) → contents_of decls (world_of holds) ≡ contents_of decls w
contents-alike decls holds w declared same =
    made-alike (contents_at decls (world_of holds)) (contents_at decls w) (length decls.arrays) (λ k below.
    ap (λ (s : State). cond (is_strings_array decls k) (Values (array_in s (index_at_home decls k))) (plain_list (plain_at s.plains (index_at_home decls k)))) (same (home_of decls k) (home-declared decls k declared below)))

pub stats-alike : (decls : Declared) (holds : ℕ → Contents) (w : World) → ((d : ℕ) → d < length decls.descrs → shown (holds d) ≡ w d) → stats_in decls (world_of holds) ≡ stats_in decls w
stats-alike decls holds w same =
    made-alike (λ d. stats_of (world_of holds d).layout) (λ d. stats_of (w d).layout) (length decls.descrs) (λ d below. ap (λ s. stats_of s.layout) (same d below))

-- an entry's value is the item that its list has there
pub loaded : (l : Layout) (slot p : ℕ) (s : Seen) → slot < length l.lengths → p < get_or l.lengths slot 0 → length l.states ≡ sum l.lengths → Shows s (value_at l (first_entry l.lengths slot + p)) → value_seen s ≡ get_or (get_or (strings_in l) slot []) p Missing
loaded l slot p s below inside states shows = shows-value s (value_at l (first_entry l.lengths slot + p)) shows ∙ entry-shown l slot p Missing below inside states

-- the values of a list with a comma between two of them
abbrev pub listed : List Value → List ℕ
listed values = join_by value_bytes (44 ∷ []) values

pub no-entries : (out : List ℕ) (values : List Value) → length values ≡ 0 → out ≡ out ++ listed values
no-entries out [] none = sym (append-nil out)
no-entries out (v ∷ vs) none = absurd (omega arith)

pub first-entry : (values : List Value) → 0 < length values → listed (take 1 values) ≡ value_bytes (get_or values 0 Missing)
first-entry [] some = absurd (omega arith)
first-entry (v ∷ vs) some = append-nil (value_bytes v)

listed-more : (values : List Value) (v : Value) → 0 < length values → listed (values ++ v ∷ []) ≡ listed values ++ 44 ∷ value_bytes v
listed-more [] v some = absurd (omega arith)
listed-more (w ∷ ws) v some =
    let behind : Value → List ℕ = λ x. 44 ∷ value_bytes x in
    ap (λ bytes. value_bytes w ++ bytes) (flat_map-append behind ws (v ∷ []) ∙ ap (λ bytes. flat_map behind ws ++ bytes) (append-nil (behind v)))
    ∙ sym (append_assoc (value_bytes w) (flat_map behind ws) (behind v))

pub more-entries : (values : List Value) (place : ℕ) → 0 < place → place < length values → listed (take (place + 1) values) ≡ listed (take place values) ++ 44 ∷ value_bytes (get_or values place Missing)
more-entries values place some below =
    let long = length-take-le place values (omega arith) in
    ap listed (take_more values place Missing below) ∙ listed-more (take place values) (get_or values place Missing) (omega arith)

pub all-entries : (values : List Value) (place : ℕ) → length values ≤ place → listed (take place values) ≡ listed values
all-entries values place past = ap listed (take_all place values past)

pub entry-written : (new middle old out : List ℕ) (v : Value) (values : List Value) (place : ℕ) → new ≡ middle ++ value_bytes v → middle ≡ old ++ 44 ∷ [] → old ≡ out ++ listed (take place values) → v ≡ get_or values place Missing → 0 < place → place < length values
    → new ≡ out ++ listed (take (place + 1) values)
entry-written new middle old out v values place e f before is some below =
    let more = more-entries values place some below in
    e ∙ (ap (λ bytes. bytes ++ value_bytes v) (f ∙ ap (λ bytes. bytes ++ 44 ∷ []) before)
    ∙ (append_assoc (out ++ listed (take place values)) (44 ∷ []) (value_bytes v)
    ∙ (append_assoc out (listed (take place values)) (44 ∷ value_bytes v)
    ∙ ap (λ bytes. out ++ bytes) (ap (λ (x : Value). listed (take place values) ++ 44 ∷ value_bytes x) is ∙ sym more))))
