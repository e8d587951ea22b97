-- All that is held after one more line.
use Rattle.std.proofs.Common.{◌≡◌, ◌+◌, ℕ, zero, suc, List, [], ◌∷◌, Option, Some, None, refl, sym, ap, ◌∙◌, subst, arith}
use Rattle.sa_base.specs.Deeds.{writes_at}
use Rattle.sa_tie.specs.Seated.{TableId}
use Rattle.sa_journal.specs.Table.{Shelves}
use Rattle.sa_journal.specs.Shapes.{Shape}
use Rattle.sa_journal.specs.Said.{Said}
use Rattle.sa_journal.specs.Chains.{Keyed}
use Rattle.sa_hall.specs.Domains.{Kept, HasEntries, IsPlaced}
use Rattle.sa_hall.specs.Holds.{held_at, is_held, in_some, AreTaken}
use Rattle.sa_hall.specs.Moves.{moved, all_moved}
use Rattle.sa_hall.proofs.HallLemmas.{held-some}
use Rattle.sa_hall.proofs.HoldLemmas.{some-same}
use Rattle.sa_hall.proofs.WriteLemmas.{shape-after, entries-after}

module _ {D : Type 0} (said : D → Said) where
  -- one slot, by a line that is the turn's
  pub moved-slot : (d : ℕ) (old new : Option (Kept D)) (line other : Keyed D) → new ≡ in_some old (λ k. moved said other d k) → other ≡ line → new ≡ in_some old (λ k. moved said line d k)
  moved-slot d old new line other is same = is ∙ ap (λ l. in_some old (λ k. moved said l d k)) same

  -- what stands at a number afterwards
  pub at-moved : (line : Keyed D) (its : List (Option (Kept D))) (first d at : ℕ) → first + d ≡ at → held_at (all_moved said line first its) d ≡ in_some (held_at its d) (λ k. moved said line at k)
  at-moved line [] first d at e = refl
  at-moved line (o ∷ os) first zero at e = let same : first ≡ at = omega arith in ap (λ n. in_some o (λ k. moved said line n k)) same
  at-moved line (o ∷ os) first (suc d) at e = at-moved line os (suc first) d at (omega arith)

  module _ (roll : Shelves) (ties : List TableId) (shapes : List Shape) where
    -- the same locks are held, of the same descriptors
    pub taken-moved : (line : Keyed D) (ns : List ℕ) (its : List (Option (Kept D))) → AreTaken roll ties shapes ns its → AreTaken roll ties shapes ns (all_moved said line 0 its)
    taken-moved line ns its are = record {
      held = λ d. ap is_held (here d) ∙ held-some (λ k. moved said line d k) (held_at its d) ∙ are.held d;
      placed = λ d k at. (each d (held_at its d) refl k (sym (here d) ∙ at)).0;
      entries = λ d k at. (each d (held_at its d) refl k (sym (here d) ∙ at)).1;
    }
      where
        here : (d : ℕ) → held_at (all_moved said line 0 its) d ≡ in_some (held_at its d) (λ k. moved said line d k)
        here d = at-moved line its 0 d d (omega arith)

        each : (d : ℕ) (o : Option (Kept D)) → held_at its d ≡ o → (k : Kept D) → in_some o (λ x. moved said line d x) ≡ Some k → IsPlaced roll ties shapes d k × HasEntries k.contents.layout
        each d None e k at = absurd (cc at)
        each d (Some x) e k at =
            let is = are.placed d x e in
            let ws = writes_at (said line.1.deed).writes d in
            let placed : IsPlaced roll ties shapes d (moved said line d x) = record { number = is.number; of = is.of; shape = shape-after x.contents ws ∙ is.shape } in
            let entries : HasEntries (moved said line d x).contents.layout = entries-after x.contents ws (are.entries d x e) in
            subst (λ y. IsPlaced roll ties shapes d y × HasEntries y.contents.layout) (some-same (moved said line d x) k at) (placed, entries)
