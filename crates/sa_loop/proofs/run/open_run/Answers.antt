use Rattle.std.proofs.Common.{◌≡◌, ◌≤◌, length, map, take, drop, ap, sym, ◌∙◌, subst, arith}
use Rattle.sa_journal.specs.Chains.{Roomy}
use Rattle.sa_loop.specs.Openings.{AreNewFrom}
use Rattle.sa_loop.proofs.OpenLemmas.{are-new, many-shapes, new-dropped, new-places, new-taken}
use Rattle.sa_loop.proofs.run.open_run.Goals as goal

pub new-requires-clause-descrs : goal.new-requires-clause-descrs
new-requires-clause-descrs g c κs within = ap length c.descrs-descrs.ensures ∙ sym (many-shapes c.args.decls.now g.B.Binding.shapes c.requires.shapes)

pub opening_domains-requires-clause-new : goal.opening_domains-requires-clause-new
opening_domains-requires-clause-new g c κs within =
    let B = g.B.Binding in
    new-taken B.roll B.ties (length B.shapes) (length c.descrs-descrs.result.now) c.in_ok-journal.chains c.split_off.new.self.items (are-new B.roll B.ties (length B.shapes) 0 c.in_ok-journal.chains (new-places B.roll B.ties (length B.shapes) c.in_ok-journal.chains c.in_ok-journal.ensures.each))
    (c.in_ok-tasks.ensures.items ∙ ap (take (length c.descrs-descrs.result.now)) c.into_vec-chains.ensures)

pub opening_domains-requires-clause-count : goal.opening_domains-requires-clause-count
opening_domains-requires-clause-count g c κs within =
    let many = many-shapes c.args.decls.now g.B.Binding.shapes c.requires.shapes in
    let descrs = ap length c.descrs-descrs.ensures in
    let len = c.in_ok-tasks.ensures.len in
    omega (arith, c.split_off.new.self.ok.0)

pub new-requires-2-clause-most : goal.new-requires-2-clause-most
new-requires-2-clause-most g c κs within =
    let many = many-shapes c.args.decls.now g.B.Binding.shapes c.requires.shapes in
    let few = c.arrays-declared.ensures.declared.descrs in
    omega arith

pub opening_passes-requires-clause-new : goal.opening_passes-requires-clause-new
opening_passes-requires-clause-new g c κs within =
    let B = g.B.Binding in
    let n = length c.descrs-descrs.result.now in
    let many : length B.shapes ≡ n = many-shapes c.args.decls.now B.shapes c.requires.shapes ∙ sym (ap length c.descrs-descrs.ensures) in
    subst (λ m. AreNewFrom {D = g.row.D.Denot} B.roll B.ties m n (map (λ (x : Roomy g.row.D.Denot). x.it) c.in_ok-tasks.tasks.items)) many
    (new-dropped B.roll B.ties (length B.shapes) n c.in_ok-journal.chains c.in_ok-tasks.tasks.items (are-new B.roll B.ties (length B.shapes) 0 c.in_ok-journal.chains (new-places B.roll B.ties (length B.shapes) c.in_ok-journal.chains c.in_ok-journal.ensures.each))
    (c.in_ok-tasks.ensures.tail ∙ ap (drop n) c.into_vec-chains.ensures))
