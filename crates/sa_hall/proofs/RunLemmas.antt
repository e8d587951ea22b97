-- Lists of places, and writes to one descriptor, as tests have them.
use Rattle.std.proofs.Common.{◌≡◌, ℕ, List, [], ◌∷◌, ◌++◌, length, map, Bool, true, false, Option, Some, slice_index_or, zip, refl, sym, ap, ◌∙◌, subst, arith}
use Rattle.std.proofs.lemmas.List.{append-nil}
use Rattle.std.specs.List.{IsDistinct}
use Rattle.sa_base.specs.Items.{Item}
use Rattle.sa_text.specs.declared.value.Value.{Value}
use Rattle.sa_alloc.specs.Layouts.{put_all}
use Rattle.sa_alloc.specs.Stores.{AreDistinct, puts_from}
use Rattle.sa_tie.specs.Seated.{TableId}
use Rattle.sa_journal.specs.Table.{Shelves}
use Rattle.sa_journal.specs.Said.{Said}
use Rattle.sa_journal.specs.Shapes.{Shape}
use Rattle.sa_hall.specs.Contents.{Contents, shape_of, opening_of, no_shape, after_writes, put_item}
use Rattle.sa_hall.specs.Domains.{Kept, stepped, IsReadHere, IsLeftHere}
use Rattle.sa_hall.specs.Folds.{left_by}
use Rattle.sa_hall.specs.Holds.{held_at, contents_in, contents_at, AreTaken}
use Rattle.sa_hall.specs.Changes.{write_of, plain_write_of}
use Rattle.sa_hall.proofs.WriteLemmas.{strings-written}

pub distinct-one : (p : ℕ) → AreDistinct (p ∷ [])
unfolding IsDistinct
distinct-one p = (tt, tt)

pub distinct-three : AreDistinct (0 ∷ 1 ∷ 2 ∷ [])
unfolding IsDistinct
distinct-three = ((refl, (refl, tt)), ((refl, tt), (tt, tt)))

-- puts of values, and nothing more
pub texts-step : (c : Contents) (ps : List (ℕ × Value)) (ks : List ℕ) (items : List Item) → ks ≡ [] → after_writes c (map (write_of 0) ps ++ (map (plain_write_of 0) (zip ks items) ++ [])) ≡ record { layout = put_all c.layout (puts_from 0 ps); plains = c.plains }
texts-step c ps ks items none = ap (λ (js : List ℕ). after_writes c (map (write_of 0) ps ++ (map (plain_write_of 0) (zip js items) ++ []))) none ∙ ap (after_writes c) (append-nil (map (write_of 0) ps)) ∙ strings-written 0 c ps

-- puts into a plain array leave the layout
plains-only : (c : Contents) (zs : List (ℕ × Item)) → (after_writes c (map (plain_write_of 0) zs ++ [])).layout ≡ c.layout
plains-only c [] = refl
plains-only c (z ∷ zs) = plains-only (put_item c (record { is_strings = false; array = 0; place = z.0 }) z.1) zs

pub numbers-step : (c : Contents) (ks : List ℕ) (vs : List Value) (zs : List (ℕ × Item)) → ks ≡ [] → (after_writes c (map (write_of 0) (zip ks vs) ++ (map (plain_write_of 0) zs ++ []))).layout ≡ c.layout
numbers-step c ks vs zs none = ap (λ (js : List ℕ). (after_writes c (map (write_of 0) (zip js vs) ++ (map (plain_write_of 0) zs ++ []))).layout) none ∙ plains-only c zs

nil : {X : Type 0} (xs : List X) → length xs ≡ 0 → xs ≡ []
nil [] e = refl
nil (x ∷ xs) e = absurd (omega arith)

-- a descriptor that no line names holds what it opened with
pub is-opening : {D : Type 0} (said : D → Said) (roll : Shelves) (ties : List TableId) (shapes : List Shape) (ns : List ℕ) (its : List (Option (Kept D))) (d : ℕ) (k : Kept D) (s : Shape) → AreTaken roll ties shapes ns its → held_at its d ≡ Some k
    → IsLeftHere said k.number k.contents k.chain.lines → length k.chain.lines ≡ 0 → slice_index_or shapes d no_shape ≡ s → contents_at its d ≡ opening_of s
is-opening said roll ties shapes ns its d k s are at left none shape_is =
    ap contents_in at ∙ left.left ∙ ap (λ ls. left_by (λ x. stepped k.number (said x)) (λ x. IsReadHere k.number (said x)) (opening_of (shape_of k.contents)) ls) (nil k.chain.lines none)
    ∙ ap opening_of ((are.placed d k at).shape ∙ shape_is)
