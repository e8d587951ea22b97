use Rattle.std.proofs.Common.{◌≡◌, ◌∷◌, [], length, map, sym, ap, ◌∙◌, subst, arith, vec_len}
use Rattle.std.proofs.lemmas.List.{length-map, map-append}
use Rattle.std.specs.Vec.Iter.{into_iter_items}
use Rattle.sa_journal.specs.Chains.{Roomy}
use Rattle.sa_hall.specs.Passes.{PassValue}
use Rattle.sa_loop.proofs.OpenLemmas.{ArePassing, passing-next, passing-takes, read-same}
use Rattle.sa_loop.proofs.run.opening_passes.Goals as goal

pub loop-chain-preserved : goal.loop-chain-preserved
loop-chain-preserved g c =
    let B = g.B.Binding in
    let D = g.row.D.Denot in
    let chain = c.in-Some.chain in
    let l = c.loop-chain in
    let ps = map (λ (x : PassValue D). x.it) l.passes.items in
    let rest = map (λ (x : Roomy D). x.it) (into_iter_items l.chain-iterator) in
    let more = map (λ (x : Roomy D). x.it) (into_iter_items c.next.new.self) in
    let next : rest ≡ chain.it ∷ more = ap (map (λ (x : Roomy D). x.it)) c.in-Some.ensures.steps.0 in
    let within = (passing-next B.roll B.ties c.args._descrs c.args.counts.now rest more ps chain.it l.invariant next).0 in
    let many : vec_len l.passes ≡ length l.passes.items = omega (arith, l.passes.ok.0) in
    let at : c.len-in-loop-chain.result ≡ length ps = c.len-in-loop-chain.ensures ∙ (many ∙ sym (length-map l.passes.items (λ (x : PassValue D). x.it))) in
    let one = passing-takes B.roll B.ties c.args._descrs c.args.counts.now rest more ps chain.it _ c.in_ok-new.field-0.it
    l.invariant next (read-same c.args.counts.now c.len-in-loop-chain.result (length ps) _ 0 within at) c.in_ok-new.ensures in
    subst (ArePassing B.roll B.ties c.args._descrs c.args.counts.now more)
    (sym (ap (map (λ (x : PassValue D). x.it)) c.in_ok-push.ensures.items ∙ map-append (λ (x : PassValue D). x.it) l.passes.items (c.in_ok-new.field-0 ∷ []))) one
