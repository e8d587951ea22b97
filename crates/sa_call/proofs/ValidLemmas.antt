-- Calls on the one array of a descriptor, which has 20 entries, are valid.
use Rattle.std.proofs.Common.{◌≡◌, inl, inr, ℕ, ◌≤◌, eqb, nat_lt, Bool, true, false, ◌&&◌, ◌||◌, cond, List, [], ◌∷◌, ◌++◌, length, map, Some, None, refl, sym, ap, ◌∙◌, subst}
use Rattle.std.specs.List.{AllByRecursion}
use Rattle.std.specs.Option.{option_and_then}
use Rattle.std.proofs.lemmas.Bool.{and_from, or_cases, eqb-true, eq-eqb}
use Rattle.sa_text.specs.Values.{IsTextValue}
use Rattle.sa_plain.specs.Items.{count_of, values_of}
use Rattle.sa_plain.specs.declared.items.Items.{Items}
use Rattle.sa_view.specs.Broadcasts.{broadcast, joined}
use Rattle.sa_view.specs.Views.{fits}
use Rattle.sa_view.specs.declared.view.View.{View}
use Rattle.sa_call.specs.declared.call.Op.{Op}
use Rattle.sa_call.specs.declared.call.Op.TheVariants as op
use Rattle.sa_call.specs.declared.call.Operand.TheVariants as operand
use Rattle.sa_call.specs.declared.decls.ArrayDecl.{ArrayDecl}
use Rattle.sa_call.specs.declared.decls.Kind.TheVariants as kind
use Rattle.sa_call.specs.declared.form.Into.TheVariants as into
use Rattle.sa_call.specs.declared.form.Sort.TheVariants as sort
use Rattle.sa_call.specs.Calls.{is_length_of}
use Rattle.sa_call.specs.Decls.{Declared, array_at, kind_of, length_at}
use Rattle.sa_call.specs.Forms.{descr_of, entry}
use Rattle.sa_call.specs.Valid.{IsCall, are_of, is_empty, is_view_of}
use Rattle.sa_call.specs.Kinds.{are_values, fits_kind, is_same_kind, lists_fit}
use Rattle.sa_call.specs.Told.{view_counts}
use Rattle.sa_call.proofs.CountLemmas.{joined-one}

abbrev twenty : ArrayDecl
twenty = record { home = 0; kind = kind.Str; len = 20 }

view-valid : (d : Declared) (v : View) → d.arrays ≡ twenty ∷ [] → v.array ≡ 0 → fits 20 v ≡ true → is_view_of d v ≡ true
view-valid d v arrays array fit =
    ap (λ (all : List ArrayDecl). nat_lt v.array (length all) && fits (length_at all v.array) v) arrays
    ∙ ap (λ k. nat_lt k 1 && fits (length_at (twenty ∷ []) k) v) array
    ∙ fit

-- its items are values
pub str-kind : (d : Declared) (array : ℕ) → d.arrays ≡ twenty ∷ [] → array ≡ 0 → kind_of d array ≡ kind.Str
str-kind d array arrays first = ap (λ (all : List ArrayDecl). (array_at all array).kind) arrays ∙ ap (λ k. (array_at (twenty ∷ []) k).kind) first

joined-same : (n : ℕ) → joined n n ≡ Some n
joined-same n = go (eqb n 1) (eqb n n) (eq-eqb n n refl)
  where
    go : (one same : Bool) → same ≡ true → cond one (Some n) (cond one (Some n) (cond same (Some n) None)) ≡ Some n
    go true same e = refl
    go false true e = refl
    go false false e = cc

-- one item, or as many as the output has, fit it
fit-length : (n : ℕ) (v : View) → (eqb n 1 || eqb n v.count) ≡ true → is_length_of (Some v) (broadcast (n ∷ v.count ∷ [])) ≡ true
fit-length n v fit = elim (or_cases (eqb n 1) (eqb n v.count) fit) [
  | inl one ↦ subst (λ m. is_length_of (Some v) (broadcast (m ∷ v.count ∷ [])) ≡ true) (sym (eqb-true n 1 one))
      (ap (λ o. is_length_of (Some v) (option_and_then (λ l. Some l) o)) (joined-one v.count) ∙ eq-eqb v.count v.count refl)
  | inr same ↦ subst (λ m. is_length_of (Some v) (broadcast (m ∷ v.count ∷ [])) ≡ true) (sym (eqb-true n v.count same))
      (ap (λ o. is_length_of (Some v) (option_and_then (λ l. option_and_then (λ k. Some k) (joined l v.count)) o)) (joined-one v.count)
      ∙ ap (λ o. is_length_of (Some v) (option_and_then (λ l. Some l) o)) (joined-same v.count)
      ∙ eq-eqb v.count v.count refl)
]

pub set-valid : (d : Declared) (items : Items) (v : View) → d.arrays ≡ twenty ∷ [] → v.array ≡ 0 → fits 20 v ≡ true → 1 ≤ count_of items → count_of items ≤ 8192
    → AllByRecursion IsTextValue (values_of items) → are_values items ≡ true → (eqb (count_of items) 1 || eqb (count_of items) v.count) ≡ true → IsCall d (record { op = op.Set; operands = operand.Literal items ∷ []; out = Some v })
set-valid d items v arrays array fit some few texts values lengths = record {
  sorts = refl;
  kinds = refl;
  rules = refl;
  results = and_from (fits_kind (kind_of d v.array) items) true (ap (λ x. fits_kind x items) (str-kind d v.array arrays array) ∙ values) refl;
  output = refl;
  views = refl;
  into = view-valid d v arrays array fit;
  descr = refl;
  lengths = fit-length (count_of items) v lengths;
  literals = (record { some = some; few = few; texts = texts }, tt);
}

pub copy-valid : (d : Declared) (v w : View) → d.arrays ≡ twenty ∷ [] → v.array ≡ 0 → fits 20 v ≡ true → w.array ≡ 0 → fits 20 w ≡ true
    → (eqb v.count 1 || eqb v.count w.count) ≡ true → IsCall d (record { op = op.Copy; operands = operand.View v ∷ []; out = Some w })
copy-valid d v w arrays from from_fits array fit lengths = record {
  sorts = refl;
  kinds = refl;
  rules = refl;
  results = and_from (is_same_kind (kind_of d v.array) (kind_of d w.array)) true (ap (λ x. is_same_kind x (kind_of d w.array)) (str-kind d v.array arrays from) ∙ ap (λ x. is_same_kind kind.Str x) (str-kind d w.array arrays array)) refl;
  output = refl;
  views = and_from (is_view_of d v) true (view-valid d v arrays from from_fits) refl;
  into = view-valid d w arrays array fit;
  descr = refl;
  lengths = fit-length v.count w lengths;
  literals = (tt, tt);
}

pub show-valid : (d : Declared) (v : View) → d.arrays ≡ twenty ∷ [] → v.array ≡ 0 → fits 20 v ≡ true → IsCall d (record { op = op.Show; operands = operand.View v ∷ []; out = None })
show-valid d v arrays array fit = record {
  sorts = refl;
  kinds = refl;
  rules = refl;
  results = refl;
  output = refl;
  views = and_from (is_view_of d v) true (view-valid d v arrays array fit) refl;
  into = refl;
  descr = refl;
  lengths = ap (λ o. is_length_of None (option_and_then (λ l. Some l) o)) (joined-one v.count);
  literals = (tt, tt);
}

or-right : (a b : Bool) → b ≡ true → (a || b) ≡ true
or-right true b e = refl
or-right false b e = e

pub whole-valid : (d : Declared) (o : Op) → length d.descrs ≡ 1 → (entry o).needs ≡ sort.Descr ∷ [] → (entry o).may ≡ [] → (entry o).into ≡ into.Never → (entry o).group ≡ None → descr_of o ≡ Some 0 → IsCall d (record { op = o; operands = []; out = None })
whole-valid d o one takes alone never moves first = record {
  sorts = or-right (is_empty (entry o).defaults && are_of (entry o).needs []) (are_of ((entry o).needs ++ (entry o).may) []) (ap (λ ss. are_of (ss ++ (entry o).may) []) takes ∙ ap (λ ms. are_of (sort.Descr ∷ ms) []) alone);
  kinds = refl;
  results = refl;
  output = rw never refl;
  views = refl;
  into = refl;
  descr = rw (first, one) refl;
  lengths = refl;
  rules = rw moves refl;
  literals = tt;
}

-- a list of values is one that a view of the array reads
pub read-one : (d : Declared) (v : View) (items : Items) → d.arrays ≡ twenty ∷ [] → v.array ≡ 0 → count_of items ≡ v.count → are_values items ≡ true
    → (map count_of (items ∷ []) ≡ view_counts (operand.View v ∷ [])) × (lists_fit d (operand.View v ∷ []) (items ∷ []) ≡ true)
read-one d v items arrays array count values =
    (ap (λ n. n ∷ []) count, and_from (fits_kind (kind_of d v.array) items) true (ap (λ x. fits_kind x items) (str-kind d v.array arrays array) ∙ values) refl)
