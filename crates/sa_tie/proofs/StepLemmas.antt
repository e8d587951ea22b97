-- Each kind of step keeps the rule of ties.
use Rattle.std.proofs.Common.{◌≡◌, ◌≢◌, ◌⊎◌, ℕ, zero, suc, true, false, true≢false, List, [], ◌∷◌, ◌++◌, set, refl, sym, ap, ◌∙◌, subst, inl, inr, ⊎_elim}
use Rattle.std.specs.Prelude.{slice_index}
use mathlib.Core.Option.{some, some-injective}
use mathlib.Core.List.{IsPrefix}
use lib.ListN.{get_elem?}
use Rattle.atomic_table.specs.Table.{Me, keeps, Allows, Splits, Joins}
use Rattle.atomic_table.proofs.Lists.{set_again, set_else}
use Rattle.sa_tie.specs.declared.view.View.{View}
use Rattle.sa_tie.specs.declared.view.Part.TheVariants.{Both, Near, Far, Note, Receipt}
use Rattle.sa_tie.specs.Views.{both_ends, near_end, far_end, spent, announced, linked, note, receipt, noted, receipted}
use Rattle.sa_tie.specs.Rule.{last_key, FitsView, EachFits, FitsTie, Runs, Begins, Tied}
use Rattle.sa_tie.proofs.PrefixLemmas.{both_ways, prefix_longer, prefix_equal, prefix_of_prefix}
use Rattle.sa_tie.proofs.FitLemmas.{last_more, far_first, owed, was_closed, as_near, as_far, as_note, as_receipt, each_set, each_more, spends, only_seat, runs}

-- a new tie: no key at either end
new_each : EachFits [] [] (near_end ∷ far_end ∷ [])
new_each zero w at =
    subst (λ (v : View). FitsView [] [] 0 v) (some-injective near_end w at)
    (as_near [] [] 0 near_end refl record { only = refl; whole = refl; closed = λ _. refl; told = ([], refl) })
new_each (suc seat) w at =
    let here = only_seat seat far_end w at in
    subst (λ (x : ℕ × View). FitsView [] [] (suc x.0) x.1) (λ i. (sym here.0 i, here.1 i))
    (as_far [] [] 1 far_end refl record { only = refl; whole = refl; told = ([], refl); settled = λ e. absurd (true≢false (sym e)) })

module _ (near far words : List ℕ) (views : List View) (seat : ℕ) (view : View) (fits : FitsTie near far words views) (at : get_elem? views seat ≡ some view) where
  announce_fits : (key : ℕ) → view.part ≡ Near → view.is_open ≡ false → FitsTie (near ++ key ∷ []) far (set words 0 key) (set views seat (announced view key))
  announce_fits key part closed =
      let mine = (fits.each seat view at).is_near part in
      let same : near ≡ far = mine.closed closed in record {
        last = ap (λ ws. set ws 0 key) fits.last ∙ (λ i. sym (last_more near key) i ∷ last_key far ∷ []);
        ahead = inr (λ i. same i ++ sym (last_more near key) i ∷ []);
        each = each_set (near ++ key ∷ []) far views seat (announced view key)
            (as_near (near ++ key ∷ []) far seat (announced view key) part record {
              only = mine.only;
              whole = ap (λ keys. keys ++ key ∷ []) mine.whole;
              closed = λ e. absurd (true≢false e);
              told = mine.told;
            })
            (λ other w apart there. let others = fits.each other w there in record {
              is_near = λ e. absurd (apart ((others.is_near e).only ∙ sym mine.only));
              is_far = λ e. let f = others.is_far e in record { only = f.only; whole = f.whole; told = prefix_longer w.taken near key f.told; settled = f.settled };
              is_note = λ e. let f = others.is_note e in record { told = prefix_longer w.keys near key f.told; settled = f.settled };
              is_receipt = others.is_receipt;
              is_parted = others.is_parted;
            });
      }

  link_fits : (key : ℕ) → view.part ≡ Far → view.taken ≡ view.keys ++ key ∷ [] → FitsTie near (far ++ key ∷ []) (set words 1 key) (set views seat (linked view key))
  link_fits key part taken =
      let mine = (fits.each seat view at).is_far part in
      let begun : IsPrefix (far ++ key ∷ []) near = subst (λ (keys : List ℕ). IsPrefix keys near) (taken ∙ ap (λ keys. keys ++ key ∷ []) mine.whole) mine.told in
      let same : near ≡ far ++ key ∷ [] = owed near far key fits.ahead begun in record {
        last = ap (λ ws. set ws 1 key) fits.last ∙ (λ i. last_key near ∷ sym (last_more far key) i ∷ []);
        ahead = inl same;
        each = each_set near (far ++ key ∷ []) views seat (linked view key)
            (as_far near (far ++ key ∷ []) seat (linked view key) part record {
              only = mine.only;
              whole = ap (λ keys. keys ++ key ∷ []) mine.whole;
              told = mine.told;
              settled = λ e. prefix_longer view.taken far key (mine.settled e);
            })
            (λ other w apart there. let others = fits.each other w there in record {
              is_near = λ e. let f = others.is_near e in record { only = f.only; whole = f.whole; closed = λ _. same; told = prefix_longer w.taken far key f.told };
              is_far = λ e. absurd (apart ((others.is_far e).only ∙ sym mine.only));
              is_note = λ e. let f = others.is_note e in record { told = f.told; settled = λ c. prefix_longer w.keys far key (f.settled c) };
              is_receipt = λ e. prefix_longer w.keys far key (others.is_receipt e);
              is_parted = others.is_parted;
            });
      }

  -- a view that is split keeps what it knows, and the new one fits at each seat
  split_fits : (new : View) → ((other : ℕ) → FitsView near far other new) → FitsTie near far words (set views seat view ++ new ∷ [])
  split_fits new mine = record {
    last = fits.last;
    ahead = fits.ahead;
    each = each_more near far (set views seat view) new (subst (λ vs. EachFits near far vs) (sym (set_again views seat view at)) fits.each) mine;
  }

  note_fits : view.part ≡ Near → (other : ℕ) → FitsView near far other (note view)
  note_fits part other =
      let mine = (fits.each seat view at).is_near part in
      as_note near far other (note view) refl record {
        told = prefix_equal view.keys near mine.whole;
        settled = λ e. prefix_equal view.keys far (mine.whole ∙ mine.closed (was_closed view.is_open e));
      }

  receipt_fits : view.part ≡ Far → (other : ℕ) → FitsView near far other (receipt view)
  receipt_fits part other = as_receipt near far other (receipt view) refl (prefix_equal view.keys far ((fits.each seat view at).is_far part).whole)

  -- an end takes in, and the words and lists stay
  taker_fits : (new : View) → FitsView near far seat new → FitsTie near far words (set views seat new)
  taker_fits new mine = record {
    last = fits.last;
    ahead = fits.ahead;
    each = each_set near far views seat new mine (λ other w _ there. fits.each other w there);
  }

  noted_fits : (other : ℕ) (w : View) → get_elem? views other ≡ some w → view.part ≡ Far → w.part ≡ Note → FitsTie near far words (set views seat (noted view w))
  noted_fits other w there part is_note =
      let mine = (fits.each seat view at).is_far part in
      let theirs = (fits.each other w there).is_note is_note in
      taker_fits (noted view w)
      (as_far near far seat (noted view w) part record { only = mine.only; whole = mine.whole; told = theirs.told; settled = theirs.settled })

  receipted_fits : (other : ℕ) (w : View) → get_elem? views other ≡ some w → view.part ≡ Near → w.part ≡ Receipt
      → (view.is_open ≡ false) ⊎ (w.keys ≡ view.keys) → FitsTie near far words (set views seat (receipted view w))
  receipted_fits other w there part is_receipt whole =
      let mine = (fits.each seat view at).is_near part in
      let theirs = (fits.each other w there).is_receipt is_receipt in
      let same : near ≡ far =
      ⊎_elim (λ (e : view.is_open ≡ false). mine.closed e)
      (λ (e : w.keys ≡ view.keys). both_ways near far (subst (λ (keys : List ℕ). IsPrefix keys far) (e ∙ mine.whole) theirs) (far_first near far fits.ahead))
      whole in
      taker_fits (receipted view w)
      (as_near near far seat (receipted view w) part record { only = mine.only; whole = mine.whole; closed = λ _. same; told = theirs })

  -- what an end knows of what it took in
  taken_first : (view.part ≡ Near) ⊎ (view.part ≡ Far) × (view.from_closed ≡ true) → IsPrefix view.taken view.keys
  taken_first knows =
      ⊎_elim (λ (part : view.part ≡ Near). let mine = (fits.each seat view at).is_near part in
      subst (λ (keys : List ℕ). IsPrefix view.taken keys) (sym mine.whole) (prefix_of_prefix view.taken far near mine.told (far_first near far fits.ahead)))
      (λ (part : (view.part ≡ Far) × (view.from_closed ≡ true)). let mine = (fits.each seat view at).is_far part.0 in
      subst (λ (keys : List ℕ). IsPrefix view.taken keys) (sym mine.whole) (mine.settled part.1))
      knows

-- a word that is written again stays
same_word : (words : List ℕ) (a b : ℕ) → words ≡ a ∷ b ∷ [] → set words 0 (slice_index words 0) ≡ words
same_word words a b e = ap (λ ws. set ws 0 (slice_index ws 0)) e ∙ sym e

module _ {S : Type 0} where
  pub may_part : (seat : ℕ) (view : View) → view ≡ both_ends → Splits {S = S} Tied seat view near_end far_end
  may_part seat view both s holds at =
      ⊎_elim (λ (b : Begins s.words s.views).
      let here : seat ≡ 0 = (only_seat seat both_ends view (subst (λ vs. get_elem? vs seat ≡ some view) b.1 at)).0 in
      inr (
        [],
        [],
        record {
          last = b.0;
          ahead = inl refl;
          each = subst (λ vs. EachFits [] [] vs) (λ i. set (sym b.1 i) (sym here i) near_end ++ far_end ∷ []) new_each;
        },
      ))
      (λ (r : Runs s.words s.views). absurd ((r.2.each seat view at).is_parted (ap (λ (v : View). v.part) both)))
      holds

  pub may_announce : (slots seat : ℕ) (me : Me S View) (key : ℕ) → me.0.part ≡ Near → me.0.is_open ≡ false
      → Allows Tied slots seat me 0 (λ _. key) (λ _ after. after.0 ≡ announced me.0 key)
  may_announce slots seat me key part closed s holds _ at _ =
      let r : Runs s.words s.views = runs s.words s.views seat me.0 at (λ e. cc) holds in
      (announced me.0 key, keeps, tt, inr (r.0 ++ key ∷ [], r.1, announce_fits r.0 r.1 s.words s.views seat me.0 r.2 at key part closed), refl)

  pub may_link : (slots seat : ℕ) (me : Me S View) (key : ℕ) → me.0.part ≡ Far → me.0.taken ≡ me.0.keys ++ key ∷ []
      → Allows Tied slots seat me 1 (λ _. key) (λ _ after. after.0 ≡ linked me.0 key)
  may_link slots seat me key part taken s holds _ at _ =
      let r : Runs s.words s.views = runs s.words s.views seat me.0 at (λ e. cc) holds in
      (linked me.0 key, keeps, tt, inr (r.0, r.1 ++ key ∷ [], link_fits r.0 r.1 s.words s.views seat me.0 r.2 at key part taken), refl)

  pub may_split_note : (seat : ℕ) (view : View) → view.part ≡ Near → Splits {S = S} Tied seat view view (note view)
  may_split_note seat view part s holds at =
      let r : Runs s.words s.views = runs s.words s.views seat view at (λ e. cc) holds in
      inr (r.0, r.1, split_fits r.0 r.1 s.words s.views seat view r.2 at (note view) (note_fits r.0 r.1 s.words s.views seat view r.2 at part))

  pub may_split_receipt : (seat : ℕ) (view : View) → view.part ≡ Far → Splits {S = S} Tied seat view view (receipt view)
  may_split_receipt seat view part s holds at =
      let r : Runs s.words s.views = runs s.words s.views seat view at (λ e. cc) holds in
      inr (r.0, r.1, split_fits r.0 r.1 s.words s.views seat view r.2 at (receipt view) (receipt_fits r.0 r.1 s.words s.views seat view r.2 at part))

  pub may_join_note : (seat : ℕ) (view : View) (other : ℕ) (w : View) → view.part ≡ Far → w.part ≡ Note
      → Joins {S = S} Tied seat view other w (noted view w) spent
  may_join_note seat view other w part is_note s holds at apart there =
      let r : Runs s.words s.views = runs s.words s.views seat view at (λ e. cc) holds in
      let was : get_elem? s.views other ≡ some w = sym (set_else s.views seat other (noted view w) apart) ∙ there in
      inr (r.0, r.1, spends r.0 r.1 s.words (set s.views seat (noted view w)) other (noted_fits r.0 r.1 s.words s.views seat view r.2 at other w was part is_note))

  pub may_join_receipt : (seat : ℕ) (view : View) (other : ℕ) (w : View) → view.part ≡ Near → w.part ≡ Receipt
      → (view.is_open ≡ false) ⊎ (w.keys ≡ view.keys) → Joins {S = S} Tied seat view other w (receipted view w) spent
  may_join_receipt seat view other w part is_receipt whole s holds at apart there =
      let r : Runs s.words s.views = runs s.words s.views seat view at (λ e. cc) holds in
      let was : get_elem? s.views other ≡ some w = sym (set_else s.views seat other (receipted view w) apart) ∙ there in
      inr (
        r.0,
        r.1,
        spends r.0 r.1 s.words (set s.views seat (receipted view w)) other (receipted_fits r.0 r.1 s.words s.views seat view r.2 at other w was part is_receipt whole),
      )

  pub may_look : (slots seat : ℕ) (me : Me S View) → (me.0.part ≡ Near) ⊎ (me.0.part ≡ Far) × (me.0.from_closed ≡ true)
      → Allows Tied slots seat me 0 (λ n. n) (λ _ after. (after.0 ≡ me.0) × IsPrefix me.0.taken me.0.keys)
  may_look slots seat me knows s holds _ at _ =
      let parted : me.0.part ≢ Both = λ e. ⊎_elim (λ (p : me.0.part ≡ Near). cc) (λ (p : (me.0.part ≡ Far) × (me.0.from_closed ≡ true)). cc) knows in
      let r : Runs s.words s.views = runs s.words s.views seat me.0 at parted holds in
      let same : FitsTie r.0 r.1 (set s.words 0 (slice_index s.words 0)) (set s.views seat me.0) =
      subst (λ (x : List ℕ × List View). FitsTie r.0 r.1 x.0 x.1)
      (λ i. (sym (same_word s.words (last_key r.0) (last_key r.1) r.2.last) i, sym (set_again s.views seat me.0 at) i)) r.2 in
      (me.0, keeps, tt, inr (r.0, r.1, same), (refl, taken_first r.0 r.1 s.words s.views seat me.0 r.2 at knows))
