-- The kinds of operands, sort by sort.
use Rattle.std.proofs.Common.{◌≡◌, ℕ, zero, suc, ◌<◌, arith, ◌+◌, Bool, true, false, cond, ◌||◌, ◌&&◌, eqb, List, [], ◌∷◌, ◌++◌, length, take, drop, get_or, replicate, Option, Some, None, refl, sym, ap, ◌∙◌}
use Rattle.std.specs.List.{filter, list_any}
use Rattle.std.proofs.lemmas.Bool.{ne_eqb}
use Rattle.std.proofs.lemmas.List.{at_drop_more}
use Rattle.sa_text.specs.declared.value.Value.{Value}
use Rattle.sa_text.specs.Values.{is_missing, stretched}
use Rattle.sa_call.specs.declared.call.Op.{Op}
use Rattle.sa_call.specs.declared.call.Operand.{Operand}
use Rattle.sa_call.specs.declared.form.Sort.{Sort}
use Rattle.sa_call.specs.Decls.{Declared}
use Rattle.sa_call.specs.Forms.{entry, is_operand}
use Rattle.sa_call.specs.Valid.{all_are, is_kind, kinds_fit}
use Rattle.sa_script.specs.Kinds.{kinds_read}

-- no operand is left
abbrev pub is_read : Option (List Operand) → Bool
is_read None = false
is_read (Some []) = true
is_read (Some (o ∷ os)) = false

pub read-left : (os : List Operand) → is_read (Some os) ≡ eqb (length os) 0
read-left [] = refl
read-left (o ∷ os) = sym (ne_eqb (length (o ∷ os)) 0 (λ none. omega arith))

-- a stretched list has a missing value where the list has
same-or : (b : Bool) → (b || b) ≡ b
same-or true = refl
same-or false = refl

or-none : (b : Bool) → (b || false) ≡ b
or-none true = refl
or-none false = refl

any_repeated : (n : ℕ) (v : Value) → list_any is_missing (replicate (suc n) v) ≡ is_missing v
any_repeated zero v = or-none (is_missing v)
any_repeated (suc n) v = ap (λ b. is_missing v || b) (any_repeated n v) ∙ same-or (is_missing v)

pub any_stretched : (values held : List Value) → values ≡ stretched (length values) held → eqb (length values) 0 ≡ false → list_any is_missing values ≡ list_any is_missing held
any_stretched [] held same some = cc
any_stretched (v ∷ vs) [] same some = cc
any_stretched (v ∷ vs) (h ∷ []) same some = ap (list_any is_missing) same ∙ any_repeated (length vs) h ∙ sym (or-none (is_missing h))
any_stretched (v ∷ vs) (h ∷ g ∷ hs) same some = ap (list_any is_missing) same

-- under these declarations
module _ (d : Declared) where
  abbrev pub kinds_then : List Sort → Option (List Operand) → Option (List Operand)
  kinds_then ss None = None
  kinds_then ss (Some os) = kinds_read d ss os

  kinds_none : (ss : List Sort) → kinds_read d ss [] ≡ Some []
  kinds_none [] = refl
  kinds_none (s ∷ ss) = refl

  append-cases : (ts : List Sort) (b k : Bool) (before short whole longer : Option (List Operand)) → short ≡ kinds_then ts before → longer ≡ kinds_then ts whole
      → cond b (cond k short None) longer ≡ kinds_then ts (cond b (cond k before None) whole)
  append-cases ts true true before short whole longer e f = e
  append-cases ts true false before short whole longer e f = refl
  append-cases ts false k before short whole longer e f = f

  pub kinds_read-append : (ss ts : List Sort) (os : List Operand) → kinds_read d (ss ++ ts) os ≡ kinds_then ts (kinds_read d ss os)
  kinds_read-append [] ts os = refl
  kinds_read-append (s ∷ ss) ts [] = sym (kinds_none ts)
  kinds_read-append (s ∷ ss) ts (o ∷ os) =
      append-cases ts (is_operand s) (is_kind d s o) (kinds_read d ss os) (kinds_read d (ss ++ ts) os) (kinds_read d ss (o ∷ os)) (kinds_read d (ss ++ ts) (o ∷ os)) (kinds_read-append ss ts os) (kinds_read-append ss ts (o ∷ os))

  kind-case : (k b : Bool) (read : Option (List Operand)) → b ≡ is_read read → (k && b) ≡ is_read (cond k read None)
  kind-case true b read e = e
  kind-case false b read e = refl

  all_kinds : (ss : List Sort) (os : List Operand) → all_are (is_kind d) (take (length os) (filter is_operand ss)) os ≡ is_read (kinds_read d ss os)
  all_kinds [] [] = refl
  all_kinds [] (o ∷ os) = refl
  all_kinds (s ∷ ss) [] = refl
  all_kinds (s ∷ ss) (o ∷ os) = go (is_operand s) (all_kinds ss os) (all_kinds ss (o ∷ os))
    where
      go : (b : Bool) → all_are (is_kind d) (take (length os) (filter is_operand ss)) os ≡ is_read (kinds_read d ss os) → all_are (is_kind d) (take (length (o ∷ os)) (filter is_operand ss)) (o ∷ os) ≡ is_read (kinds_read d ss (o ∷ os))
          → all_are (is_kind d) (take (length (o ∷ os)) (cond b (s ∷ filter is_operand ss) (filter is_operand ss))) (o ∷ os) ≡ is_read (cond b (cond (is_kind d s o) (kinds_read d ss os) None) (kinds_read d ss (o ∷ os)))
      go true e f = kind-case (is_kind d s o) (all_are (is_kind d) (take (length os) (filter is_operand ss)) os) (kinds_read d ss os) e
      go false e f = f

  pub kinds_fit-is : (o : Op) (os : List Operand) → kinds_fit d o os ≡ is_read (kinds_then (entry o).may (kinds_read d (entry o).needs os))
  kinds_fit-is o os = all_kinds ((entry o).needs ++ (entry o).may) os ∙ ap is_read (kinds_read-append (entry o).needs (entry o).may os)

  -- by what is left behind the operands that are needed, and behind those that may be left out
  pub kinds-told : (o : Op) (os rest : List Operand) (read : Option (List Operand)) → Some rest ≡ kinds_read d (entry o).needs os → read ≡ kinds_read d (entry o).may rest → is_read read ≡ kinds_fit d o os
  kinds-told o os rest read first then = ap is_read (then ∙ ap (kinds_then (entry o).may) first) ∙ sym (kinds_fit-is o os)

  pub kinds-none : (o : Op) (os : List Operand) → None ≡ kinds_read d (entry o).needs os → false ≡ kinds_fit d o os
  kinds-none o os none = ap (λ read. is_read (kinds_then (entry o).may read)) none ∙ sym (kinds_fit-is o os)

  -- one sort after another
  pub kinds_skip : (ss : List Sort) (k : ℕ) (u : Sort) (os : List Operand) → k < length ss → is_operand (get_or ss k u) ≡ false → kinds_read d (drop (k + 1) ss) os ≡ kinds_read d (drop k ss) os
  kinds_skip ss k u [] below other = kinds_none (drop (k + 1) ss) ∙ sym (kinds_none (drop k ss))
  kinds_skip ss k u (o ∷ os) below other = sym (at_drop_more (λ (l : List Sort). kinds_read d l (o ∷ os)) ss k u below ∙ rw other refl)
