-- What whoever holds locks, or ends a hall, makes of it.
use Rattle.std.proofs.Common.{◌≡◌, ◌≤◌, ◌<◌, ◌+◌, ◌==◌, nat_lt, ℕ, Bool, true, false, List, [], ◌∷◌, length, Option, Some, None, Result, Ok, Err, IfOk, OnOk, refl, sym, ap, ◌∙◌, subst, arith, if◌then◌else◌, slice_index_or}
use Rattle.std.proofs.lemmas.Bool.{ltb-true}
use Rattle.sa_base.specs.Deeds.{Write, writes_at}
use Rattle.sa_tie.specs.Seated.{TableId}
use Rattle.sa_journal.specs.Table.{Shelves}
use Rattle.sa_journal.specs.Shapes.{Shape}
use Rattle.sa_journal.specs.Said.{Said}
use Rattle.sa_journal.specs.Parties.{among}
use Rattle.sa_journal.specs.Chains.{Keyed}
use Rattle.sa_journal.specs.Journals.{Settled, IsOf}
use Rattle.sa_hall.specs.declared.change.Change.{Change}
use Rattle.sa_hall.specs.declared.change.Change.TheVariants as change
use Rattle.sa_hall.specs.Contents.{Contents, shape_of, no_shape, after_writes}
use Rattle.sa_hall.specs.Domains.{Kept, stepped}
use Rattle.sa_hall.specs.Holds.{HeldValue, held_at, is_held, in_some, contents_in, contents_at, AreTaken}
use Rattle.sa_hall.specs.Changes.{writes_by}
use Rattle.sa_hall.specs.Halls.{AreQuiet, AreOf, IsOfEnded}
use Rattle.sa_hall.specs.Moves.{moved, all_moved, Commits}
use Rattle.sa_hall.proofs.MoveLemmas.{at-moved}

-- writes to one descriptor are the change there
pub one-written : (number d : ℕ) (ws : List Write) (c : Change) → ws ≡ writes_by c → writes_at ((number, ws) ∷ []) d ≡ writes_by (if number == d then c else change.Nothing)
one-written number d ws c e = go (number == d)
  where
    go : (b : Bool) → (if b then ws else []) ≡ writes_by (if b then c else change.Nothing)
    go true = e
    go false = refl

module _ {D : Type 0} (roll : Shelves) (ties : List TableId) (shapes : List Shape) where
  -- a descriptor that is held has its shape
  pub taken-shape : (ns : List ℕ) (its : List (Option (Kept D))) → AreTaken roll ties shapes ns its → (d : ℕ) → among d ns ≡ true → shape_of (contents_at its d) ≡ slice_index_or shapes d no_shape
  taken-shape ns its are d named = go (held_at its d) refl (are.held d ∙ named)
    where
      go : (o : Option (Kept D)) → held_at its d ≡ o → is_held (held_at its d) ≡ true → shape_of (contents_at its d) ≡ slice_index_or shapes d no_shape
      go None at held = absurd (cc (sym held ∙ ap is_held at))
      go (Some k) at held = ap (λ o. shape_of (contents_in o)) at ∙ (are.placed d k at).shape

  -- the descriptors of a hall are those of its journal once that has ended
  pub quiet-of : (ended : Settled D) (its : List (Option (Kept D))) → AreQuiet roll ties shapes its → ended.roll ≡ roll → ended.ties ≡ ties → ended.descrs ≡ length shapes → length shapes ≤ 8 → AreOf ended its
  quiet-of ended its are roll_is ties_is descrs_is most d k at =
      let is = are.placed d k at in
      let low : d < length shapes = ltb-true d (length shapes) (sym (are.there d) ∙ ap is_held at) in
      let number = is.number in (
        subst (λ (x : Shelves × List TableId × ℕ). IsOf x.0 x.1 x.2 k.chain) (λ i. (sym roll_is i, sym ties_is i, sym descrs_is i)) is.of,
        (omega (arith, number, descrs_is, low), omega (arith, number, low, most)),
      )

-- what a held descriptor holds after one more line
pub contents-moved : {D : Type 0} (said : D → Said) (line : Keyed D) (its : List (Option (Kept D))) (d : ℕ) → is_held (held_at its d) ≡ true → contents_at (all_moved said line 0 its) d ≡ stepped d (said line.1.deed) (contents_at its d)
contents-moved {D} said line its d held = ap contents_in (at-moved said line its 0 d d (omega arith)) ∙ go (held_at its d) held
  where
    go : (o : Option (Kept D)) → is_held o ≡ true → contents_in (in_some o (λ k. moved said line d k)) ≡ stepped d (said line.1.deed) (contents_in o)
    go None h = absurd (cc h)
    go (Some k) h = refl

pub commits-contents : {D : Type 0} (said : D → Said) (deed : D) (n : ℕ) (old new : HeldValue D) (d : ℕ) → Commits said deed n old new → is_held (held_at old.hold.its d) ≡ true → contents_at new.hold.its d ≡ stepped d (said deed) (contents_at old.hold.its d)
commits-contents said deed n old new d done held =
    ap (λ os. contents_at os d) done.its ∙ contents-moved said done.line old.hold.its d held ∙ ap (λ x. stepped d (said x) (contents_at old.hold.its d)) done.deed_is

-- what holds after a success
pub on-ok : {X E : Type 0} (P : X → Type 0) (Q : Type 0) (r : Result X E) → ((x : X) → P x → Q) → IfOk r P → OnOk r Q
on-ok P Q (Ok x) f p = f x p
on-ok P Q (Err e) f p = tt
