-- Results that are put into a plain array, and what fits one.
use Rattle.std.proofs.Common.{◌≡◌, ◌≤◌, ◌<◌, ℕ, zero, suc, true, false, leb, List, [], ◌∷◌, length, map, zip, get_or, refl, sym, ap, ◌∙◌, subst, arith}
use Rattle.std.specs.List.{AllByRecursion}
use Rattle.std.proofs.lemmas.Bool.{and_from, and_parts, false≢true, leb-true, le-leb}
use Rattle.std.proofs.lemmas.List.Elements.{All-from_recursion, recursion_from_All}
use Rattle.sa_alloc.specs.StoreValues.{Room}
use Rattle.sa_plain.specs.Items.{count_of, items_of}
use Rattle.sa_plain.specs.Plains.{FitKind, FitPlain, PlainValue, opening_plain}
use Rattle.sa_plain.specs.declared.items.Items.{Items}
use Rattle.sa_plain.specs.declared.items.Items.TheVariants.{Values, Ints, Flags, Bytes, Units}
use Rattle.sa_plain.specs.declared.kind.PlainKind.{PlainKind}
use Rattle.sa_plain.specs.declared.kind.PlainKind.TheVariants as plain
use Rattle.sa_view.specs.Views.{places_of}
use Rattle.sa_view.specs.declared.view.View.{View}
use Rattle.sa_call.specs.declared.decls.Kind.{Kind}
use Rattle.sa_call.specs.declared.decls.Kind.TheVariants as kind
use Rattle.sa_call.specs.Decls.{Declared, is_strings_array, kind_of}
use Rattle.sa_call.specs.Kinds.{are_within, fits_kind, fits_plain}
use Rattle.sa_call.specs.Told.{index_at_home}
use Rattle.sa_hall.specs.Changes.{CanChange, plain_write_of, writes_by}
use Rattle.sa_hall.specs.Contents.{Contents, plain_at}
use Rattle.sa_hall.specs.declared.change.Change.TheVariants as change
use Rattle.sa_loop.specs.Held.{IsViewIn}
use Rattle.sa_loop.specs.Writes.{puts_told}
use Rattle.sa_loop.proofs.StepLemmas.{plains-told}
use Rattle.sa_loop.proofs.ViewLemmas.{as-plain, plain-ready}

-- a plain array that was lent by its number
pub indexed : (ps : List PlainValue) (k : ℕ) (p : PlainValue) → k < length ps → p ≡ get_or ps k p → p ≡ plain_at ps k
indexed ps k p below is = is ∙ there ps k below
  where
    there : (ps : List PlainValue) (k : ℕ) → k < length ps → get_or ps k p ≡ get_or ps k (opening_plain plain.Int 0)
    there [] k below = absurd (omega arith)
    there (q ∷ qs) zero below = refl
    there (q ∷ qs) (suc k) below = there qs k (omega arith)

-- texts that are not wider, tested and said
each-within : (w : ℕ) (rows : List (List ℕ)) → are_within w rows ≡ true → AllByRecursion (λ (row : List ℕ). length row ≤ w) rows
each-within w [] fit = tt
each-within w (r ∷ rs) fit = let parts = and_parts (leb (length r) w) (are_within w rs) fit in (leb-true (length r) w parts.0, each-within w rs parts.1)

all-within : (w : ℕ) (rows : List (List ℕ)) → AllByRecursion (λ (row : List ℕ). length row ≤ w) rows → are_within w rows ≡ true
all-within w [] all = refl
all-within w (r ∷ rs) all = and_from (leb (length r) w) (are_within w rs) (le-leb (length r) w all.0) (all-within w rs all.1)

pub kind-fits : (p : PlainKind) (items : Items) → fits_plain p items ≡ true → FitKind p items
kind-fits plain.Int (Values vs) fit = absurd (false≢true fit)
kind-fits plain.Int (Ints ns) fit = tt
kind-fits plain.Int (Flags bs) fit = absurd (false≢true fit)
kind-fits plain.Int (Bytes rows) fit = absurd (false≢true fit)
kind-fits plain.Int (Units rows) fit = absurd (false≢true fit)
kind-fits plain.Bool (Values vs) fit = absurd (false≢true fit)
kind-fits plain.Bool (Ints ns) fit = absurd (false≢true fit)
kind-fits plain.Bool (Flags bs) fit = tt
kind-fits plain.Bool (Bytes rows) fit = absurd (false≢true fit)
kind-fits plain.Bool (Units rows) fit = absurd (false≢true fit)
kind-fits (plain.Bytes w) (Values vs) fit = absurd (false≢true fit)
kind-fits (plain.Bytes w) (Ints ns) fit = absurd (false≢true fit)
kind-fits (plain.Bytes w) (Flags bs) fit = absurd (false≢true fit)
kind-fits (plain.Bytes w) (Bytes rows) fit = All-from_recursion (λ (row : List ℕ). length row ≤ w) rows (each-within w rows fit)
kind-fits (plain.Bytes w) (Units rows) fit = absurd (false≢true fit)
kind-fits (plain.Fixed w) (Values vs) fit = absurd (false≢true fit)
kind-fits (plain.Fixed w) (Ints ns) fit = absurd (false≢true fit)
kind-fits (plain.Fixed w) (Flags bs) fit = absurd (false≢true fit)
kind-fits (plain.Fixed w) (Bytes rows) fit = absurd (false≢true fit)
kind-fits (plain.Fixed w) (Units rows) fit = All-from_recursion (λ (row : List ℕ). length row ≤ w) rows (each-within w rows fit)

fits-plain : (p : PlainKind) (items : Items) → FitKind p items → fits_plain p items ≡ true
fits-plain plain.Int (Values vs) fit = absurd fit
fits-plain plain.Int (Ints ns) fit = refl
fits-plain plain.Int (Flags bs) fit = absurd fit
fits-plain plain.Int (Bytes rows) fit = absurd fit
fits-plain plain.Int (Units rows) fit = absurd fit
fits-plain plain.Bool (Values vs) fit = absurd fit
fits-plain plain.Bool (Ints ns) fit = absurd fit
fits-plain plain.Bool (Flags bs) fit = refl
fits-plain plain.Bool (Bytes rows) fit = absurd fit
fits-plain plain.Bool (Units rows) fit = absurd fit
fits-plain (plain.Bytes w) (Values vs) fit = absurd fit
fits-plain (plain.Bytes w) (Ints ns) fit = absurd fit
fits-plain (plain.Bytes w) (Flags bs) fit = absurd fit
fits-plain (plain.Bytes w) (Bytes rows) fit = all-within w rows (recursion_from_All (λ (row : List ℕ). length row ≤ w) rows fit)
fits-plain (plain.Bytes w) (Units rows) fit = absurd fit
fits-plain (plain.Fixed w) (Values vs) fit = absurd fit
fits-plain (plain.Fixed w) (Ints ns) fit = absurd fit
fits-plain (plain.Fixed w) (Flags bs) fit = absurd fit
fits-plain (plain.Fixed w) (Bytes rows) fit = absurd fit
fits-plain (plain.Fixed w) (Units rows) fit = all-within w rows (recursion_from_All (λ (row : List ℕ). length row ≤ w) rows fit)

-- items that a plain array of a declared kind gives fit that kind
pub fits-declared : (k : Kind) (p q : PlainValue) (items : Items) → kind.Plain q.kind ≡ k → p ≡ q → FitKind p.kind items → fits_kind k items ≡ true
fits-declared k p q items declared same fit =
    ap (λ (j : Kind). fits_kind j items) (sym declared) ∙ ap (λ (x : PlainValue). fits_plain x.kind items) (sym same) ∙ fits-plain p.kind items fit

-- results that fit the output's array can be put there, and these are the writes that are told
pub can-put-plain : (decls : Declared) (v : View) (c : Contents) (room : Room) (items copy : Items) (slot : ℕ) (places : List ℕ) → IsViewIn decls v c → is_strings_array decls v.array ≡ false → slot ≡ index_at_home decls v.array → places ≡ places_of v
    → count_of items ≡ v.count → fits_kind (kind_of decls v.array) items ≡ true → copy ≡ items → CanChange c room (change.Plains slot places copy)
can-put-plain decls v c room items copy slot places is other at_slot at_places many fits copied =
    let r = plain-ready decls c.plains v slot places (as-plain decls v c is other) at_slot at_places in
    let fit : fits_plain (plain_at c.plains slot).kind copy ≡ true = ap (fits_plain (plain_at c.plains slot).kind) copied ∙ (ap (λ (k : Kind). fits_kind k items) r.kind_is ∙ fits) in
    (r.index, record { many = r.count ∙ (sym many ∙ sym (ap count_of copied)); below = r.below; kind = kind-fits (plain_at c.plains slot).kind copy fit })

pub told-plain : (decls : Declared) (v : View) (items copy : Items) (slot : ℕ) (places : List ℕ) → is_strings_array decls v.array ≡ false → slot ≡ index_at_home decls v.array → places ≡ places_of v → copy ≡ items
    → writes_by (change.Plains slot places copy) ≡ puts_told decls v items
told-plain decls v items copy slot places other at_slot at_places copied =
    ap (λ k. map (plain_write_of k) (zip places (items_of copy))) at_slot
    ∙ (ap (λ ps. map (plain_write_of (index_at_home decls v.array)) (zip ps (items_of copy))) at_places
    ∙ (ap (λ (i : Items). map (plain_write_of (index_at_home decls v.array)) (zip (places_of v) (items_of i))) copied
    ∙ sym (plains-told decls v items other)))
