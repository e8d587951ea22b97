use Rattle.std.proofs.Common.{◌≡◌, ◌≤◌, ◌+◌, ◌*◌, ◌++◌, length, take, drop, replicate, sym, ap, ◌∙◌, arith, append_assoc, length-append}
use Rattle.std.specs.List.{concat}
use Rattle.std.proofs.Math.Nat.{mul-le-mul_right}
use Rattle.sa_text.proofs.MakingLemmas.{concat-add, length-concat, within-repeated}
use Rattle.sa_text.proofs.place.repeat_into.Goals as goal

pub copy_within-requires-clause-within : goal.copy_within-requires-clause-within
copy_within-requires-clause-within c =
    let part = c.args.part.now in
    let old = c.args.bytes.now.items in
    let done = c.loop-done.done in
    let more = c.min-more.result in
    let size = ap length c.loop-done.invariant.items ∙ length-append old (concat (replicate done part)) in
    let all = length-concat done part in
    let few : more ≤ done = omega arith in
    omega (arith, mul-le-mul_right (length part) few)

pub copy_within-requires-clause-fits : goal.copy_within-requires-clause-fits
copy_within-requires-clause-fits c =
    let part = c.args.part.now in
    let old = c.args.bytes.now.items in
    let done = c.loop-done.done in
    let more = c.min-more.result in
    let size = ap length c.loop-done.invariant.items ∙ length-append old (concat (replicate done part)) in
    let all = length-concat done part in
    let few : done + more ≤ c.args.times = omega arith in
    omega (arith, mul-le-mul_right (length part) few)

pub loop-done-preserved : goal.loop-done-preserved
loop-done-preserved c =
    let part = c.args.part.now in
    let old = c.args.bytes.now.items in
    let now = c.loop-done.bytes.items in
    let done = c.loop-done.done in
    let more = c.min-more.result in
    let before = c.loop-done.invariant in
    let start : c.len-start.result ≡ length old = omega (arith, c.len-start.ensures) in
    let few : more ≤ done = omega arith in
    record {
      some = omega arith;
      within = omega arith;
      items = c.copy_within.ensures.items
          ∙ ap (λ t. now ++ t) (ap (λ s. take (more * length part) (drop s now)) start ∙ within-repeated old now part more done few before.items)
          ∙ ap (λ t. t ++ concat (replicate more part)) before.items
          ∙ append_assoc old (concat (replicate done part)) (concat (replicate more part))
          ∙ ap (λ t. old ++ t) (sym (concat-add done more part));
      capacity = omega arith;
    }
