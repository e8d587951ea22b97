-- The statements that the tokens of a call spell.
use Rattle.std.proofs.Common.{◌≡◌, ℕ, suc, ◌+◌, nat_lt, not, List, [], ◌∷◌, map, length, Some, None, pos, negsuc, refl, inl, inr, arith, codes}
use Rattle.std.specs.List.{prefix_len}
use Rattle.std.proofs.lemmas.Bool.{cases_Bool}
use Rattle.sa_plain.specs.declared.items.Items.{Items}
use Rattle.sa_plain.specs.declared.items.Items.TheVariants.{Ints}
use Rattle.sa_call.specs.Forms.{whole_search}
use Rattle.sa_call.specs.declared.call.Op.{Op}
use Rattle.sa_call.specs.declared.call.Op.TheVariants as op
use Rattle.sa_script.specs.Items.{is_mark, list_of, piece_size}
use Rattle.sa_script.specs.Statements.{statement_of}
use Rattle.sa_script.specs.Views.{view_of}
use Rattle.sa_script.specs.declared.statement.Line.{Line}
use Rattle.sa_script.specs.declared.statement.Statement.TheVariants.{Call}
use Rattle.sa_script.specs.declared.statement.Term.{Term}
use Rattle.sa_script.specs.declared.statement.Term.TheVariants as term
use Rattle.sa_script.specs.declared.statement.ViewTerm.{ViewTerm}

-- a piece that begins with no mark has its first byte
piece-first : (bytes : List ℕ) → (k : ℕ) × (piece_size (97 ∷ bytes) ≡ suc k)
piece-first bytes = elim (cases_Bool (nat_lt (1 + prefix_len (λ b. not (is_mark b)) bytes) (suc (length bytes)))) [
  | inl t ↦ (prefix_len (λ b. not (is_mark b)) bytes, rw t (omega arith))
  | inr f ↦ (length bytes, rw f refl)
]

-- a token that begins with the letter a is no list
letter-no-list : (bytes : List ℕ) → list_of (97 ∷ bytes) ≡ None
letter-no-list bytes = let first = (piece-first bytes).1 in rw first refl

-- lists as terms
abbrev pub listed : List Items → List Term
listed lists = map (λ items. term.List (Some items)) lists

-- a line that reads a view and these lists, and one that reads lists alone
abbrev pub reading : Op → ViewTerm → List Items → ViewTerm → Line
reading o v lists out = record { op = o; operands = term.View v ∷ listed lists; out = Some out }

abbrev pub setting : Items → ViewTerm → Line
setting items out = record { op = op.Set; operands = term.List (Some items) ∷ []; out = Some out }

-- the tokens of each call of a sample
pub set-reads : (t w : List ℕ) (out : ViewTerm) (items : Items) → view_of t ≡ Some out → list_of w ≡ Some (Some items) → statement_of (codes "set" ∷ t ∷ w ∷ []) ≡ Some (Call (setting items out))
set-reads t w out items read list = rw (read, list) refl

pub copy-reads : (s t : List ℕ) (v out : ViewTerm) → view_of s ≡ Some v → view_of t ≡ Some out → statement_of (codes "copy" ∷ s ∷ codes "into" ∷ t ∷ []) ≡ Some (Call (reading op.Copy v [] out))
copy-reads s t v out first read = rw (first, read) refl

pub add-reads : (s w t : List ℕ) (v out : ViewTerm) (items : Items) → view_of (97 ∷ s) ≡ Some v → list_of w ≡ Some (Some items) → view_of t ≡ Some out
    → statement_of (codes "add" ∷ (97 ∷ s) ∷ w ∷ codes "into" ∷ t ∷ []) ≡ Some (Call (reading op.Add v (items ∷ []) out))
add-reads s w t v out items first list read = let none = letter-no-list s in rw (none, first, list, read) refl

pub replace-reads : (s w x t : List ℕ) (v out : ViewTerm) (items others : Items) → view_of (97 ∷ s) ≡ Some v → list_of w ≡ Some (Some items) → list_of x ≡ Some (Some others) → view_of t ≡ Some out
    → statement_of (codes "replace" ∷ (97 ∷ s) ∷ w ∷ x ∷ codes "into" ∷ t ∷ []) ≡ Some (Call (reading op.Replace v (items ∷ others ∷ Ints (negsuc 0 ∷ []) ∷ []) out))
replace-reads s w x t v out items others first list other read = let none = letter-no-list s in rw (none, first, list, other, read) refl

pub strip-reads : (s t : List ℕ) (v out : ViewTerm) → view_of (97 ∷ s) ≡ Some v → view_of t ≡ Some out → statement_of (codes "strip" ∷ (97 ∷ s) ∷ codes "into" ∷ t ∷ []) ≡ Some (Call (reading op.Strip v [] out))
strip-reads s t v out first read = let none = letter-no-list s in rw (none, first, read) refl

pub find-reads : (s w t : List ℕ) (v out : ViewTerm) (items : Items) → view_of (97 ∷ s) ≡ Some v → list_of w ≡ Some (Some items) → view_of t ≡ Some out
    → statement_of (codes "find" ∷ (97 ∷ s) ∷ w ∷ codes "into" ∷ t ∷ []) ≡ Some (Call (reading op.Find v (items ∷ map (λ n. Ints (n ∷ [])) whole_search) out))
find-reads s w t v out items first list read = let none = letter-no-list s in rw (none, first, list, read) refl

pub multiply-reads : (s t : List ℕ) (v out : ViewTerm) → view_of (97 ∷ s) ≡ Some v → view_of t ≡ Some out
    → statement_of (codes "multiply" ∷ (97 ∷ s) ∷ codes "2" ∷ codes "into" ∷ t ∷ []) ≡ Some (Call (reading op.Multiply v (Ints (pos 2 ∷ []) ∷ []) out))
multiply-reads s t v out first read = let none = letter-no-list s in rw (none, first, read) refl
