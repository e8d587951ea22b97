use Rattle.std.proofs.Common.{◌∷◌, [], refl, ◌∙◌, ap}
use Rattle.sa_hall.specs.Holds.{Hold}
use Rattle.sa_hall.specs.Moves.{all_moved}
use Rattle.sa_hall.proofs.MoveLemmas.{moved-slot}
use Rattle.sa_hall.proofs.guards.Guards.commit.Goals as goal

pub returns-clause-its : goal.returns-clause-its
returns-clause-its g c =
    let m0 = moved-slot g.D.Deed.said 0 _ _ c.args.turn.now.line _ c.commit.ensures.moved (refl) in
    let m1 = moved-slot g.D.Deed.said 1 _ _ c.args.turn.now.line _ c.commit-2.ensures.moved (c.commit.ensures.line.1) in
    let m2 = moved-slot g.D.Deed.said 2 _ _ c.args.turn.now.line _ c.commit-3.ensures.moved (c.commit-2.ensures.line.1 ∙ c.commit.ensures.line.1) in
    let m3 = moved-slot g.D.Deed.said 3 _ _ c.args.turn.now.line _ c.commit-4.ensures.moved (c.commit-3.ensures.line.1 ∙ c.commit-2.ensures.line.1 ∙ c.commit.ensures.line.1) in
    let m4 = moved-slot g.D.Deed.said 4 _ _ c.args.turn.now.line _ c.commit-5.ensures.moved (c.commit-4.ensures.line.1 ∙ c.commit-3.ensures.line.1 ∙ c.commit-2.ensures.line.1 ∙ c.commit.ensures.line.1) in
    let m5 = moved-slot g.D.Deed.said 5 _ _ c.args.turn.now.line _ c.commit-6.ensures.moved (c.commit-5.ensures.line.1 ∙ c.commit-4.ensures.line.1 ∙ c.commit-3.ensures.line.1 ∙ c.commit-2.ensures.line.1 ∙ c.commit.ensures.line.1) in
    let m6 = moved-slot g.D.Deed.said 6 _ _ c.args.turn.now.line _ c.commit-7.ensures.moved (c.commit-6.ensures.line.1 ∙ c.commit-5.ensures.line.1 ∙ c.commit-4.ensures.line.1 ∙ c.commit-3.ensures.line.1 ∙ c.commit-2.ensures.line.1 ∙ c.commit.ensures.line.1) in
    let m7 = moved-slot g.D.Deed.said 7 _ _ c.args.turn.now.line _ c.commit-8.ensures.moved (c.commit-7.ensures.line.1 ∙ c.commit-6.ensures.line.1 ∙ c.commit-5.ensures.line.1 ∙ c.commit-4.ensures.line.1 ∙ c.commit-3.ensures.line.1 ∙ c.commit-2.ensures.line.1 ∙ c.commit.ensures.line.1) in
    (λ i. m0 i ∷ m1 i ∷ m2 i ∷ m3 i ∷ m4 i ∷ m5 i ∷ m6 i ∷ m7 i ∷ []) ∙ ap (λ (h : Hold g.row.D.Denot). all_moved g.D.Deed.said c.args.turn.now.line 0 h.its) c.self.view_is
