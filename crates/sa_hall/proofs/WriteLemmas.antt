-- Writes of one descriptor: what they keep, and what the puts of a plan and of items are.
use Rattle.std.proofs.Common.{◌≡◌, ◌<◌, ◌+◌, ℕ, zero, suc, Bool, true, false, List, [], ◌∷◌, length, map, sum, set, get_or, refl, sym, ap, ◌∙◌, arith, length-set}
use Rattle.std.proofs.lemmas.List.{length-replicate}
use Rattle.std.specs.Prelude.{slice_set, fold, zip, if◌then◌else◌}
use Rattle.sa_base.specs.Items.{Item}
use Rattle.sa_base.specs.Deeds.{Place, Write, Put, Tidy}
use Rattle.sa_text.specs.Values.{value_of, item_of}
use Rattle.sa_text.specs.declared.value.Value.{Value}
use Rattle.sa_text.specs.declared.value.Value.TheVariants.{Missing, Of}
use Rattle.sa_alloc.specs.Layouts.{Layout, first_entry, put, put_all}
use Rattle.sa_alloc.specs.Stores.{puts_from}
use Rattle.sa_alloc.specs.Tidies.{tidy, filled}
use Rattle.sa_alloc.specs.Layouts as layouts
use Rattle.sa_alloc.proofs.LayoutLemmas.{put-lengths, put-entries}
use Rattle.sa_alloc.proofs.TidyLemmas.{all-lengths, all-entries}
use Rattle.sa_plain.specs.Plains as plains
use Rattle.sa_plain.specs.Plains.{PlainValue, with_item, item_padded, opening_plain}
use Rattle.sa_plain.specs.declared.kind.PlainKind.{PlainKind}
use Rattle.sa_plain.specs.declared.kind.PlainKind.TheVariants as kind
use Rattle.sa_journal.specs.Shapes.{Shape, KindSaid, Numbers, Flags, Bytes, Units}
use Rattle.sa_hall.specs.Contents.{Contents, kind_said, kind_of, shape_of, opening_of, entry_at, plain_at, put_item, tidied, after_writes}
use Rattle.sa_hall.specs.Domains.{HasEntries, plains_said}
use Rattle.sa_hall.specs.Changes.{write_of, plain_write_of}

-- the kinds and lengths of plain arrays
abbrev pub plain_shapes : List PlainValue → List (KindSaid × ℕ)
plain_shapes ps = map (λ p. (kind_said p.kind, length p.items)) ps

-- an item in one plain array leaves the kinds and lengths of all
plain-shapes-put : (ps : List PlainValue) (k : ℕ) (place : ℕ) (item : Item) → plain_shapes (set ps k (with_item (get_or ps k (opening_plain kind.Int 0)) place item)) ≡ plain_shapes ps
plain-shapes-put [] k place item = refl
plain-shapes-put (p ∷ ps) zero place item = ap (λ n. (kind_said p.kind, n) ∷ plain_shapes ps) (length-set p.items place item)
plain-shapes-put (p ∷ ps) (suc k) place item = ap (λ xs. (kind_said p.kind, length p.items) ∷ xs) (plain-shapes-put ps k place item)

pub shape-put : (c : Contents) (p : Place) (item : Item) → shape_of (put_item c p item) ≡ shape_of c
shape-put c p item = go p.is_strings
  where
    go : (b : Bool) → shape_of (record {
      layout = if b then put c.layout (entry_at c.layout p) (value_of item) else c.layout;
      plains = if b then c.plains else slice_set c.plains p.array (with_item (plain_at c.plains p.array) p.place (item_padded (plain_at c.plains p.array).kind item));
    }) ≡ shape_of c
    go true = ap (λ ns. let s : Shape = record { strings = ns; plains = plain_shapes c.plains } in s) (put-lengths c.layout (entry_at c.layout p) (value_of item))
    go false = ap (λ xs. let s : Shape = record { strings = c.layout.lengths; plains = xs } in s) (plain-shapes-put c.plains p.array p.place (item_padded (plain_at c.plains p.array).kind item))

pub shape-tidied : (c : Contents) → shape_of (tidied c) ≡ shape_of c
shape-tidied c = ap (λ ns. let s : Shape = record { strings = ns; plains = plain_shapes c.plains } in s) (all-lengths (layouts.opening_layout c.layout.lengths) (filled c.layout.extents 0 c.layout.states))

-- writes keep the shape
pub shape-after : (c : Contents) (ws : List Write) → shape_of (after_writes c ws) ≡ shape_of c
shape-after c [] = refl
shape-after c (Put p item ∷ ws) = shape-after (put_item c p item) ws ∙ shape-put c p item
shape-after c (Tidy ∷ ws) = shape-after (tidied c) ws ∙ shape-tidied c

entries-put : (c : Contents) (p : Place) (item : Item) → HasEntries c.layout → HasEntries (put_item c p item).layout
entries-put c p item has = go p.is_strings
  where
    go : (b : Bool) → HasEntries (if b then put c.layout (entry_at c.layout p) (value_of item) else c.layout)
    go true = put-entries c.layout (entry_at c.layout p) (value_of item) ∙ has ∙ ap sum (sym (put-lengths c.layout (entry_at c.layout p) (value_of item)))
    go false = has

entries-tidy : (l : Layout) → HasEntries (tidy l)
entries-tidy l =
    all-entries (layouts.opening_layout l.lengths) (filled l.extents 0 l.states) ∙ length-replicate (sum l.lengths) layouts.Fresh
    ∙ ap sum (sym (all-lengths (layouts.opening_layout l.lengths) (filled l.extents 0 l.states)))

-- writes keep an entry for each place
pub entries-after : (c : Contents) (ws : List Write) → HasEntries c.layout → HasEntries (after_writes c ws).layout
entries-after c [] has = has
entries-after c (Put p item ∷ ws) has = entries-after (put_item c p item) ws (entries-put c p item has)
entries-after c (Tidy ∷ ws) has = entries-after (tidied c) ws (entries-tidy c.layout)

-- before the first line

pub kind-again : (k : PlainKind) → kind_of (kind_said k) ≡ k
kind-again kind.Int = refl
kind-again kind.Bool = refl
kind-again (kind.Bytes w) = refl
kind-again (kind.Fixed w) = refl

kind-said-again : (k : KindSaid) → kind_said (kind_of k) ≡ k
kind-said-again Numbers = refl
kind-said-again Flags = refl
kind-said-again (Bytes w) = refl
kind-said-again (Units w) = refl

plain-shapes-opening : (ps : List (KindSaid × ℕ)) → plain_shapes (map (λ p. opening_plain (kind_of p.0) p.1) ps) ≡ ps
plain-shapes-opening [] = refl
plain-shapes-opening (p ∷ ps) =
    let rest = plain-shapes-opening ps in
    let count = length-replicate p.1 (plains.zero_item (kind_of p.0)) in
    let kind_is = kind-said-again p.0 in
    λ i. (kind_is i, count i) ∷ rest i

-- opening contents have their shape
pub shape-opening : (s : Shape) → shape_of (opening_of s) ≡ s
shape-opening s = ap (λ xs. let t : Shape = record { strings = s.strings; plains = xs } in t) (plain-shapes-opening s.plains)

-- plain arrays before the first line, by their kinds
pub opening_plains : (ps : List (PlainKind × ℕ)) → map (λ p. opening_plain (kind_of p.0) p.1) (plains_said ps) ≡ map (λ p. opening_plain p.0 p.1) ps
opening_plains [] = refl
opening_plains (p ∷ ps) = let rest = opening_plains ps in let same = kind-again p.0 in λ i. opening_plain (same i) p.1 ∷ rest i

-- the writes of a change

value-of-item : (v : Value) → value_of (item_of v) ≡ v
value-of-item Missing = refl
value-of-item (Of text) = refl

pub strings-written : (array : ℕ) (c : Contents) (ps : List (ℕ × Value)) → after_writes c (map (write_of array) ps) ≡ record { layout = put_all c.layout (puts_from (first_entry c.layout.lengths array) ps); plains = c.plains }
strings-written array c [] = refl
strings-written array c (p ∷ ps) =
    let entry = first_entry c.layout.lengths array + p.0 in
    let after = put c.layout entry p.1 in
    ap (λ v. after_writes (let d : Contents = record { layout = put c.layout entry v; plains = c.plains } in d) (map (write_of array) ps)) (value-of-item p.1)
    ∙ strings-written array (record { layout = after; plains = c.plains }) ps
    ∙ ap (λ ns. let d : Contents = record { layout = put_all after (puts_from (first_entry ns array) ps); plains = c.plains } in d) (put-lengths c.layout entry p.1)

-- a member put in its own place, one put where it stands, and two puts in one place
set-own : {X : Type 0} (xs : List X) (k : ℕ) (d : X) → set xs k (get_or xs k d) ≡ xs
set-own [] k d = refl
set-own (x ∷ xs) zero d = refl
set-own (x ∷ xs) (suc k) d = ap (λ ys. x ∷ ys) (set-own xs k d)

get-set : {X : Type 0} (xs : List X) (k : ℕ) (x d : X) → k < length xs → get_or (set xs k x) k d ≡ x
get-set [] k x d h = absurd (omega arith)
get-set (y ∷ xs) zero x d h = refl
get-set (y ∷ xs) (suc k) x d h = get-set xs k x d (omega arith)

set-set : {X : Type 0} (xs : List X) (k : ℕ) (x y : X) → set (set xs k x) k y ≡ set xs k y
set-set [] k x y = refl
set-set (z ∷ xs) zero x y = refl
set-set (z ∷ xs) (suc k) x y = ap (λ ys. z ∷ ys) (set-set xs k x y)

pub plains-written : (array : ℕ) (c : Contents) (zs : List (ℕ × Item)) → array < length c.plains
    → after_writes c (map (plain_write_of array) zs) ≡ record { layout = c.layout; plains = slice_set c.plains array (fold (λ q put. plains.put_item q put.0 put.1) (plain_at c.plains array) zs) }
plains-written array c [] below = ap (λ ps. let d : Contents = record { layout = c.layout; plains = ps } in d) (sym (set-own c.plains array (opening_plain kind.Int 0)))
plains-written array c (z ∷ zs) below =
    let put_one = plains.put_item (plain_at c.plains array) z.0 z.1 in
    let ps = slice_set c.plains array put_one in
    let count = length-set c.plains array put_one in
    let next : Contents = record { layout = c.layout; plains = ps } in
    plains-written array next zs (omega arith)
    ∙ ap (λ q. let d : Contents = record { layout = c.layout; plains = slice_set ps array (fold (λ r put. plains.put_item r put.0 put.1) q zs) } in d) (get-set c.plains array put_one (opening_plain kind.Int 0) below)
    ∙ ap (λ qs. let d : Contents = record { layout = c.layout; plains = qs } in d) (set-set c.plains array put_one (fold (λ r put. plains.put_item r put.0 put.1) put_one zs))

-- the same, as a line moves what is kept

pub shape_moved : (c : Contents) (ws : List Write) (s : Shape) → shape_of c ≡ s → shape_of (after_writes c ws) ≡ s
shape_moved c ws s e = shape-after c ws ∙ e

pub entries_moved : (c : Contents) (ws : List Write) → HasEntries c.layout → HasEntries (after_writes c ws).layout
entries_moved c ws has = entries-after c ws has

get-there : {X : Type 0} (xs : List X) (k : ℕ) (x d : X) → k < length xs → x ≡ get_or xs k x → get_or xs k d ≡ x
get-there [] k x d h e = absurd (omega arith)
get-there (y ∷ xs) zero x d h e = sym e
get-there (y ∷ xs) (suc k) x d h e = get-there xs k x d (omega arith) e

-- items put into one plain array
pub plains-changed : (array : ℕ) (c : Contents) (places : List ℕ) (items : List Item) (p after : PlainValue) → array < length c.plains → p ≡ get_or c.plains array p → after ≡ plains.put_items p places items
    → ◌≡◌ {A = Contents} (record { layout = c.layout; plains = slice_set c.plains array after }) (after_writes c (map (plain_write_of array) (zip places items)))
plains-changed array c places items p after below at put =
    ap (λ q. let d : Contents = record { layout = c.layout; plains = slice_set c.plains array q } in d)
    (put ∙ ap (λ q. plains.put_items q places items) (sym (get-there c.plains array p (opening_plain kind.Int 0) below at)))
    ∙ sym (plains-written array c (zip places items) below)
