-- The rule over lists and views: what a view by its part needs, and what a change of one view leaves of the others.
use Rattle.std.proofs.Common.{◌≡◌, ◌≢◌, ◌≤◌, ◌+◌, ◌⊎◌, ℕ, zero, suc, Bool, true, false, not, List, [], ◌∷◌, ◌++◌, length, set, refl, sym, ap, subst, ⊎_elim, arith, length-append}
use mathlib.Core.Option.{some, some-injective, some-ne-none}
use mathlib.Core.List.{IsPrefix}
use lib.ListN.{get_elem?}
use Rattle.atomic_table.proofs.Lists.{at_set, at_snoc}
use Rattle.sa_tie.specs.declared.view.View.{View}
use Rattle.sa_tie.specs.declared.view.Part.TheVariants.{Both, Near, Far, Note, Receipt, Spent}
use Rattle.sa_tie.specs.Views.{both_ends, spent}
use Rattle.sa_tie.specs.Rule.{last_key, FitsNear, FitsFar, FitsNote, FitsView, Ahead, EachFits, FitsTie, Runs, Begins}
use Rattle.sa_tie.proofs.PrefixLemmas.{prefix_whole, prefix_equal}

-- the last key of a list that was made longer by one
pub last_more : (keys : List ℕ) (key : ℕ) → last_key (keys ++ key ∷ []) ≡ key
last_more [] key = refl
last_more (x ∷ []) key = refl
last_more (x ∷ y ∷ keys) key = last_more (y ∷ keys) key

-- the near list is longer by one key at most
pub one_more : (near far : List ℕ) → Ahead near far → length near ≤ length far + 1
one_more near far ahead =
    ⊎_elim (λ (e : near ≡ far). omega (arith, ap length e))
    (λ (e : near ≡ far ++ last_key near ∷ []). omega (arith, ap length e, length-append far (last_key near ∷ [])))
    ahead

-- the far list begins the near list
pub far_first : (near far : List ℕ) → Ahead near far → IsPrefix far near
far_first near far ahead =
    ⊎_elim (λ (e : near ≡ far). prefix_equal far near (sym e)) (λ (e : near ≡ far ++ last_key near ∷ []). (last_key near ∷ [], sym e)) ahead

-- where the far list and one key begin the near list, they are the near list
pub owed : (near far : List ℕ) (key : ℕ) → Ahead near far → IsPrefix (far ++ key ∷ []) near → near ≡ far ++ key ∷ []
owed near far key ahead begun =
    sym (prefix_whole (far ++ key ∷ []) near begun (omega (arith, one_more near far ahead, length-append far (key ∷ []))))

-- the note is from a closed near end
pub was_closed : (is_open : Bool) → not is_open ≡ true → is_open ≡ false
was_closed true e = sym e
was_closed false e = refl

module _ (near far : List ℕ) (seat : ℕ) (view : View) where
  -- a near end fits where it fits as such
  pub as_near : view.part ≡ Near → FitsNear near far seat view → FitsView near far seat view
  as_near p fits = record { is_near = λ _. fits; is_far = λ e. cc; is_note = λ e. cc; is_receipt = λ e. cc; is_parted = λ e. cc }

  -- a far end fits where it fits as such
  pub as_far : view.part ≡ Far → FitsFar near far seat view → FitsView near far seat view
  as_far p fits = record { is_near = λ e. cc; is_far = λ _. fits; is_note = λ e. cc; is_receipt = λ e. cc; is_parted = λ e. cc }

  -- a note fits where it fits as such
  pub as_note : view.part ≡ Note → FitsNote near far view → FitsView near far seat view
  as_note p fits = record { is_near = λ e. cc; is_far = λ e. cc; is_note = λ _. fits; is_receipt = λ e. cc; is_parted = λ e. cc }

  -- a receipt fits where its keys begin the far list
  pub as_receipt : view.part ≡ Receipt → IsPrefix view.keys far → FitsView near far seat view
  as_receipt p fits = record { is_near = λ e. cc; is_far = λ e. cc; is_note = λ e. cc; is_receipt = λ _. fits; is_parted = λ e. cc }

  -- a spent view fits
  pub as_spent : view.part ≡ Spent → FitsView near far seat view
  as_spent p = record { is_near = λ e. cc; is_far = λ e. cc; is_note = λ e. cc; is_receipt = λ e. cc; is_parted = λ e. cc }

-- after a change of one view each fits, where the new one and the others do
pub each_set : (near far : List ℕ) (views : List View) (seat : ℕ) (view : View) → FitsView near far seat view
    → ((other : ℕ) (w : View) → other ≢ seat → get_elem? views other ≡ some w → FitsView near far other w)
    → EachFits near far (set views seat view)
each_set near far views seat view mine others other w at =
    ⊎_elim (λ (x : (other ≡ seat) × (view ≡ w)). subst (λ (y : ℕ × View). FitsView near far y.0 y.1) (λ i. (sym x.0 i, x.1 i)) mine)
    (λ (x : (other ≢ seat) × (get_elem? views other ≡ some w)). others other w x.0 x.1)
    (at_set views seat other view w at)

-- with one view more each fits, where the new one fits at each seat
pub each_more : (near far : List ℕ) (views : List View) (view : View) → EachFits near far views → ((seat : ℕ) → FitsView near far seat view)
    → EachFits near far (views ++ view ∷ [])
each_more near far views view each mine seat w at =
    ⊎_elim (λ (x : get_elem? views seat ≡ some w). each seat w x) (λ (x : view ≡ w). subst (λ (y : View). FitsView near far seat y) x (mine seat))
    (at_snoc views view w seat at)

-- any view may be spent
pub spends : (near far words : List ℕ) (views : List View) (seat : ℕ) → FitsTie near far words views → FitsTie near far words (set views seat spent)
spends near far words views seat fits = record {
  last = fits.last;
  ahead = fits.ahead;
  each = each_set near far views seat spent (as_spent near far seat spent refl) (λ other w _ at. fits.each other w at);
}

-- the one seat of a table
pub only_seat : (seat : ℕ) (a b : View) → get_elem? (a ∷ []) seat ≡ some b → (seat ≡ 0) × (a ≡ b)
only_seat zero a b e = (refl, some-injective a b e)
only_seat (suc n) a b e = absurd (some-ne-none b (sym e))

-- where a seat is not both ends, the tie is in use
pub runs : (words : List ℕ) (views : List View) (seat : ℕ) (view : View) → get_elem? views seat ≡ some view → view.part ≢ Both
    → Begins words views ⊎ Runs words views → Runs words views
runs words views seat view at parted holds =
    ⊎_elim (λ (b : Begins words views).
    let here : both_ends ≡ view = (only_seat seat both_ends view (subst (λ vs. get_elem? vs seat ≡ some view) b.1 at)).1 in
    absurd (parted (ap (λ (v : View). v.part) (sym here))))
    (λ (r : Runs words views). r)
    holds
