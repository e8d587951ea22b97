use Rattle.std.proofs.Common.{◌≡◌, sym, subst, ap, ◌∙◌, List, Option, length}
use Rattle.sa_journal.specs.Chains.{Keyed}
use Rattle.sa_journal.specs.Journals.{IsOf}
use Rattle.sa_hall.specs.Domains.{Kept}
use Rattle.sa_hall.specs.Passes.{Passed, pass_with}
use Rattle.sa_hall.specs.Holds.{HeldValue, AreTaken}
use Rattle.sa_hall.specs.Moves.{Fits, all_moved}
use Rattle.sa_hall.proofs.FitLemmas.{fits-there}
use Rattle.sa_hall.proofs.MoveLemmas.{taken-moved}
use Rattle.sa_hall.proofs.held.Held.commit.Goals as goal

pub commit-requires-clause-fits : goal.commit-requires-clause-fits
commit-requires-clause-fits g c κs within =
    let s = g.D.Deed.said c.in_ok-turn.turn.line.1.deed in
    let are = subst (λ (v : HeldValue g.row.D.Denot). AreTaken g.B.Binding.roll g.B.Binding.ties g.B.Binding.shapes v.numbers v.hold.its) c.self.view_is c.self.invariant.0 in
    let fits = subst (λ (x : g.row.D.Denot). Fits (g.D.Deed.said x) c.args.work c.args.self.now) (sym c.in_ok-turn.ensures.deed) c.requires.fits in
    let its = c.reserve-2.ensures.its ∙ ap (λ (v : HeldValue g.row.D.Denot). v.hold.its) c.self.view_is in
    let stores = c.reserve-2.ensures.stores ∙ ap (λ (v : HeldValue g.row.D.Denot). v.hold.stores) c.self.view_is in
    let at = fits-there g.B.Binding.roll g.B.Binding.ties g.B.Binding.shapes s c.args.work c.args.self.now are fits in (
      at 0 c.changes.result.0 c.reserve-2.new.self.its c.reserve-2.new.self.stores c.changes.ensures.0 its stores,
      at 1 c.changes.result.1 c.reserve-2.new.self.its c.reserve-2.new.self.stores c.changes.ensures.1 its stores,
      at 2 c.changes.result.2 c.reserve-2.new.self.its c.reserve-2.new.self.stores c.changes.ensures.2 its stores,
      at 3 c.changes.result.3 c.reserve-2.new.self.its c.reserve-2.new.self.stores c.changes.ensures.3 its stores,
      at 4 c.changes.result.4 c.reserve-2.new.self.its c.reserve-2.new.self.stores c.changes.ensures.4 its stores,
      at 5 c.changes.result.5 c.reserve-2.new.self.its c.reserve-2.new.self.stores c.changes.ensures.5 its stores,
      at 6 c.changes.result.6 c.reserve-2.new.self.its c.reserve-2.new.self.stores c.changes.ensures.6 its stores,
      at 7 c.changes.result.7 c.reserve-2.new.self.its c.reserve-2.new.self.stores c.changes.ensures.7 its stores,
    )

pub invariant_of-self-2 : goal.invariant_of-self-2
invariant_of-self-2 g c =
    let line = c.in_ok-turn.turn.line in
    let its = c.commit.ensures.its ∙ ap (λ (os : List (Option (Kept g.row.D.Denot))). all_moved g.D.Deed.said line 0 os) c.reserve-2.ensures.its in
    let pass : c.link.new.self.it ≡ pass_with c.self.inside.pass.it c.commit.new.turn.line = c.link.ensures.linked ∙ ap (λ (p : Passed g.row.D.Denot). pass_with p c.commit.new.turn.line) c.reserve.ensures.same in (
      subst (λ (os : List (Option (Kept g.row.D.Denot))). AreTaken g.B.Binding.roll g.B.Binding.ties g.B.Binding.shapes c.self.inside.numbers os) (sym its)
          (taken-moved g.D.Deed.said g.B.Binding.roll g.B.Binding.ties g.B.Binding.shapes line c.self.inside.numbers c.self.inside.guards.its c.self.invariant.0),
      subst (λ (p : Passed g.row.D.Denot). IsOf g.B.Binding.roll g.B.Binding.ties (length g.B.Binding.shapes) p.chain) (sym pass) c.self.invariant.1,
    )

pub returns-clause-done : goal.returns-clause-done
returns-clause-done g c =
    let line = c.in_ok-turn.turn.line in
    let same = c.link.ensures.line.1 ∙ c.commit.ensures.line.1 in
    record {
      line = line;
      number_is = sym (c.close.ensures ∙ ap (λ (l : Keyed g.row.D.Denot). l.1.number) same);
      deed_is = c.in_ok-turn.ensures.deed;
      its = c.commit.ensures.its ∙ ap (λ (os : List (Option (Kept g.row.D.Denot))). all_moved g.D.Deed.said line 0 os) (c.reserve-2.ensures.its ∙ ap (λ (v : HeldValue g.row.D.Denot). v.hold.its) c.self.view_is);
      pass = c.link.ensures.linked ∙ (λ i. pass_with ((c.reserve.ensures.same ∙ ap (λ (v : HeldValue g.row.D.Denot). v.pass.it) c.self.view_is) i) (c.commit.ensures.line.1 i));
      numbers = ap (λ (v : HeldValue g.row.D.Denot). v.numbers) c.self.view_is;
    }
