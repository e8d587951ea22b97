use Rattle.std.proofs.Common.{ℕ, List, ◌<◌, All, sym, subst, ap, ◌∙◌}
use Rattle.sa_hall.specs.Holds.{HeldValue, held_at, AreTaken}
use Rattle.sa_hall.proofs.HoldLemmas.{taken-more, taken-keeps}
use Rattle.sa_hall.proofs.held.Held.take.Goals as goal

pub invariant_of-self : goal.invariant_of-self
invariant_of-self g c =
    let more = taken-more g.B.Binding.roll g.B.Binding.ties g.B.Binding.shapes c.self.inside.numbers c.args.number c.self.inside.guards.its c.take.new.self.its c.self.invariant.0 c.take.ensures in
    (subst (λ (ns : List ℕ). AreTaken g.B.Binding.roll g.B.Binding.ties g.B.Binding.shapes ns c.take.new.self.its) (sym c.add.ensures) more, c.self.invariant.1)

pub returns-clause-held : goal.returns-clause-held
returns-clause-held g c d k at =
    let above = subst (λ (v : HeldValue g.row.D.Denot). All (λ n. n < c.args.number) v.numbers) (sym c.self.view_is) c.requires.above in
    taken-keeps g.B.Binding.roll g.B.Binding.ties g.B.Binding.shapes c.self.inside.numbers c.args.number c.self.inside.guards.its c.take.new.self.its c.self.invariant.0 c.take.ensures above d k
    (ap (λ (v : HeldValue g.row.D.Denot). held_at v.hold.its d) c.self.view_is ∙ at)
