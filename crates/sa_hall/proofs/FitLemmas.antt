-- What fits all that is held fits each descriptor that is held.
use Rattle.std.proofs.Common.{◌≡◌, ◌==◌, ℕ, Bool, true, false, List, [], ◌∷◌, drop, get_or, Option, Some, None, refl, sym, ap, ◌∙◌, subst, if◌then◌else◌}
use Rattle.sa_base.specs.Deeds.{Part, part_at, writes_at}
use Rattle.sa_alloc.specs.StoreValues.{Room}
use Rattle.sa_tie.specs.Seated.{TableId}
use Rattle.sa_journal.specs.Table.{Shelves}
use Rattle.sa_journal.specs.Shapes.{Shape}
use Rattle.sa_journal.specs.Said.{Said}
use Rattle.sa_journal.specs.Parties.{among}
use Rattle.sa_hall.specs.declared.change.Change.{Change}
use Rattle.sa_hall.specs.declared.change.Change.TheVariants as change
use Rattle.sa_hall.specs.declared.work.Work.{Work}
use Rattle.sa_hall.specs.declared.work.Work.TheVariants as work
use Rattle.sa_hall.specs.Contents.{Contents, reread}
use Rattle.sa_hall.specs.Domains.{Kept, IsReadHere}
use Rattle.sa_hall.specs.Holds.{Hold, HeldValue, held_at, is_held, contents_in, contents_at, room_at, AreTaken, parts_again}
use Rattle.sa_hall.specs.Changes.{change_at, CanChange}
use Rattle.sa_hall.specs.Moves.{CanWork, Fits, FitsAt}
use Rattle.sa_hall.proofs.HoldLemmas.{same_number}

-- parts that are the same when they are read again, each of them
pub part-again : (contents : ℕ → Contents) (parts : List (ℕ × Part)) (d : ℕ) → parts_again contents parts ≡ parts → reread (contents d) (part_at parts d) ≡ part_at parts d
part-again contents [] d e = refl
part-again contents (p ∷ ps) d e = go (p.0 == d) refl (part-again contents ps d (ap (drop 1) e))
  where
    go : (b : Bool) → (p.0 == d) ≡ b → reread (contents d) (part_at ps d) ≡ part_at ps d → reread (contents d) (if b then p.1 else part_at ps d) ≡ (if b then p.1 else part_at ps d)
    go true same rest = sym (ap (λ n. reread (contents n) p.1) (same_number p.0 d same)) ∙ ap (λ (xs : List (ℕ × Part)). (get_or xs 0 p).1) e
    go false apart rest = rest

-- work that can be done is a change that can be made at each number
can-change : {D : Type 0} (h : Hold D) (w : Work) (d : ℕ) → CanWork h w → CanChange (contents_at h.its d) (room_at h.stores d) (change_at w d)
can-change h work.Nothing d can = tt
can-change h (work.Strings number plan) d can = go (number == d) refl
  where
    go : (b : Bool) → (number == d) ≡ b → CanChange (contents_at h.its d) (room_at h.stores d) (if b then change.Strings plan else change.Nothing)
    go true e = subst (λ n. CanChange (contents_at h.its n) (room_at h.stores n) (change.Strings plan)) (same_number number d e) can.1
    go false e = tt
can-change h (work.Plains number array places items) d can = go (number == d) refl
  where
    go : (b : Bool) → (number == d) ≡ b → CanChange (contents_at h.its d) (room_at h.stores d) (if b then change.Plains array places items else change.Nothing)
    go true e = subst (λ n. CanChange (contents_at h.its n) (room_at h.stores n) (change.Plains array places items)) (same_number number d e) can.1
    go false e = tt
can-change h (work.Tidied number store) d can = go (number == d) refl
  where
    go : (b : Bool) → (number == d) ≡ b → CanChange (contents_at h.its d) (room_at h.stores d) (if b then change.Tidied store else change.Nothing)
    go true e = subst (λ n. CanChange (contents_at h.its n) (room_at h.stores n) (change.Tidied store)) (same_number number d e) can.1
    go false e = tt

module _ {D : Type 0} (roll : Shelves) (ties : List TableId) (shapes : List Shape) (s : Said) (w : Work) (h : HeldValue D) where
  -- at a number, whether it is held or not
  one-fits : AreTaken roll ties shapes h.numbers h.hold.its → Fits s w h → (d : ℕ) → FitsAt s (change_at w d) (held_at h.hold.its d) (held_at h.hold.stores d)
  one-fits are fits d = go (held_at h.hold.its d) refl
    where
      go : (o : Option (Kept D)) → held_at h.hold.its d ≡ o → FitsAt s (change_at w d) o (held_at h.hold.stores d)
      go None at = tt
      go (Some k) at =
          let number = (are.placed d k at).number in
          let contents : contents_at h.hold.its d ≡ k.contents = ap contents_in at in
          record {
            named = ap (λ n. among n s.locks) number ∙ ap (among d) fits.locks ∙ sym (are.held d) ∙ ap is_held at;
            reads = subst (λ (x : ℕ × Contents). IsReadHere x.0 s x.1) (λ i. (sym number i, contents i)) (part-again (λ n. contents_at h.hold.its n) s.parts d fits.reads);
            writes = ap (writes_at s.writes) number ∙ fits.writes d;
            can = subst (λ c. CanChange c (room_at h.hold.stores d) (change_at w d)) contents (can-change h.hold w d fits.can);
          }

  -- the same of what room was made for, and of the change that is made there
  pub fits-there : AreTaken roll ties shapes h.numbers h.hold.its → Fits s w h → (d : ℕ) (c : Change) (its : List (Option (Kept D))) (stores : List (Option Room)) → c ≡ change_at w d → its ≡ h.hold.its → stores ≡ h.hold.stores → FitsAt s c (held_at its d) (held_at stores d)
  fits-there are fits d c its stores c_is its_are stores_are =
      subst (λ (x : Change × List (Option (Kept D)) × List (Option Room)). FitsAt s x.0 (held_at x.1 d) (held_at x.2 d)) (λ i. (sym c_is i, sym its_are i, sym stores_are i)) (one-fits are fits d)
