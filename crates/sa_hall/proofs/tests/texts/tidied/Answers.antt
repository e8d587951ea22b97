use Rattle.std.proofs.Common.{◌≡◌, ℕ, List, [], ◌∷◌, length, replicate, zip, refl, sym, ap, ◌∙◌, subst}
use Rattle.sa_text.specs.Values.{stretched}
use Rattle.sa_text.specs.declared.value.Value.{Value}
use Rattle.sa_text.specs.declared.value.Value.TheVariants.{Of}
use Rattle.sa_alloc.specs.Layouts.{put_all}
use Rattle.sa_alloc.specs.PlanValues.{PlanValue}
use Rattle.sa_alloc.specs.StoreValues.{Contents, StoreValue, opening_contents}
use Rattle.sa_alloc.specs.Stores.{AreDistinct, puts_of}
use Rattle.sa_hall.proofs.RunLemmas.{distinct-three}
use Rattle.sa_hall.proofs.tests.texts.tidied.Goals as goal

pub plan-requires-clause-distinct : goal.plan-requires-clause-distinct
plan-requires-clause-distinct c = subst AreDistinct (sym (c.as_slice.ensures ∙ c.in_ok-places.ensures)) distinct-three

pub returns : goal.returns
unfolding lib.Utf8.encode
returns c =
    let places : c.as_slice.result.now ≡ 0 ∷ 1 ∷ 2 ∷ [] = c.as_slice.ensures ∙ c.in_ok-places.ensures in
    let lit : List Value = Of (97 ∷ []) ∷ Of (97 ∷ []) ∷ Of (replicate 16 65) ∷ [] in
    let values : stretched (length c.as_slice.result.now) c.as_slice-2.result.now ≡ lit =
    ap (λ (ps : List ℕ). stretched (length ps) c.as_slice-2.result.now) places ∙ sym (subst (λ (vs : List Value). vs ≡ stretched (length vs) c.as_slice-2.result.now) c.in_ok-values.ensures c.as_slice-2.ensures) in
    let contents : c.plan.new.self.contents ≡ opening_contents (4 ∷ []) = c.plan.ensures.contents ∙ ap (λ (s : StoreValue). s.contents) c.in_ok-store.ensures in
    let plan : ◌≡◌ {A = PlanValue} c.in_ok-plan.plan (record { array = 0; puts = zip (0 ∷ 1 ∷ 2 ∷ []) lit }) = c.in_ok-plan.ensures.plan ∙ (λ i. record { array = 0; puts = zip (places i) (values i) }) in
    c.write.ensures.layout ∙ (λ i. put_all (contents i).layout (puts_of (contents i).layout.lengths (plan i)))
