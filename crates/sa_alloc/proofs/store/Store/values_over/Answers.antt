-- The next value is the one that is seen, and its long text stands next in the block.
use Rattle.std.proofs.Common.{◌≡◌, ◌+◌, ◌∷◌, ◌++◌, [], take, get_or, ap, ◌∙◌, sym, subst, arith}
use Rattle.std.proofs.lemmas.List.{length-map}
use Rattle.sa_text.specs.declared.value.Value.{Value}
use Rattle.sa_alloc.specs.Layouts.{value_at}
use Rattle.sa_alloc.specs.Stores.{Shows}
use Rattle.sa_alloc.proofs.CopyLemmas.{Left, Next, next-left, value-shown, values_from, values-more, value-here}
use Rattle.sa_alloc.proofs.store.Store.values_over.Goals as goal
use Rattle.sa_alloc.proofs.store.Store.values_over.Goals.{After-seen}

next : (c : After-seen) → Next (values_from c.args.self.now.contents.layout c.args.first c.args.places.now) c.args.block.now c.loop-place.place-index c.loop-place.start c.seen.result
next c =
    let l = c.args.self.now.contents.layout in
    let first = c.args.first in
    let places = c.args.places.now in
    let k = c.loop-place.place-index in
    let many = length-map places (λ p. value_at l (first + p)) in
    next-left (values_from l first places) c.args.block.now k c.loop-place.start c.seen.result (omega arith)
    (subst (Shows c.seen.result) (sym (value-here l first k places 0 (omega arith))) c.seen.ensures)
    c.loop-place.invariant.left

pub copied-requires-clause-within : goal.copied-requires-clause-within
copied-requires-clause-within c = (next (goal.at.copied-requires-clause-within c).After-seen).within

pub copied-requires-clause-part : goal.copied-requires-clause-part
copied-requires-clause-part c = (next (goal.at.copied-requires-clause-part c).After-seen).part

pub loop-place-preserved : goal.loop-place-preserved
loop-place-preserved c =
    let l = c.args.self.now.contents.layout in
    let first = c.args.first in
    let places = c.args.places.now in
    let k = c.loop-place.place-index in
    let made : c.in_ok-value.value ≡ value_at l (first + get_or places k 0) = c.in_ok-value.ensures.value ∙ sym (value-shown _ _ c.seen.ensures) in
    record {
      values =
          c.in_ok-push.ensures.items
          ∙ ap (λ vs. vs ++ c.in_ok-value.value ∷ []) c.loop-place.invariant.values
          ∙ ap (λ (v : Value). values_from l first (take k places) ++ v ∷ []) made
          ∙ sym (values-more l first k places 0 (omega arith));
      left = subst (λ n. Left (values_from l first places) c.args.block.now (k + 1) (c.loop-place.start + n)) (sym c.in_ok-value.ensures.size) (next (goal.at.loop-place-preserved c).After-seen).left;
    }
