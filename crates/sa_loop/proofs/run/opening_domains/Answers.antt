use Rattle.std.proofs.Common.{◌≡◌, ◌∷◌, [], List, length, map, sym, ap, ◌∙◌, subst}
use Rattle.std.proofs.lemmas.List.{map-append}
use Rattle.std.specs.Vec.Iter.{into_iter_items}
use Rattle.sa_journal.specs.Chains.{Roomy}
use Rattle.sa_hall.specs.Domains.{DomainValue}
use Rattle.sa_loop.proofs.OpenLemmas.{AreOpening, opened-entries, opened-placed, opening-takes}
use Rattle.sa_loop.proofs.run.opening_domains.Goals as goal

pub loop-chain-preserved : goal.loop-chain-preserved
loop-chain-preserved g c =
    let B = g.B.Binding in
    let D = g.row.D.Denot in
    let decls = c.args.decls.now in
    let chain = c.in-Some.chain in
    let l = c.loop-chain in
    let made = c.in_ok-opening_domain.ensures in
    let next = ap (map (λ (x : Roomy D). x.it)) c.in-Some.ensures.steps.0 in
    let one = opening-takes B.roll B.ties B.shapes decls (map (λ (x : Roomy D). x.it) (into_iter_items l.chain-iterator)) (map (λ (x : Roomy D). x.it) (into_iter_items c.next.new.self)) (map (λ (x : DomainValue D). x.it) l.domains.items) chain.it c.in_ok-opening_domain.field-0.it
    c.requires.declared c.requires.shapes l.invariant next made.number made.chain made.shape made.entries in
    subst (AreOpening B.roll B.ties B.shapes (map (λ (x : Roomy D). x.it) (into_iter_items c.next.new.self)))
    (sym (ap (map (λ (x : DomainValue D). x.it)) c.in_ok-push.ensures.items ∙ map-append (λ (x : DomainValue D). x.it) l.domains.items (c.in_ok-opening_domain.field-0 ∷ []))) one

pub returns-clause-placed : goal.returns-clause-placed
returns-clause-placed g c = opened-placed g.B.Binding.roll g.B.Binding.ties g.B.Binding.shapes (map (λ (x : DomainValue g.row.D.Denot). x.it) c.loop-chain.domains.items) c.loop-chain.invariant.made

pub returns-clause-entries : goal.returns-clause-entries
returns-clause-entries g c = opened-entries g.B.Binding.roll g.B.Binding.ties g.B.Binding.shapes (map (λ (x : DomainValue g.row.D.Denot). x.it) c.loop-chain.domains.items) c.loop-chain.invariant.made
