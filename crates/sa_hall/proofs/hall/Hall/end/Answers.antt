use Rattle.std.proofs.Common.{◌∙◌}
use Rattle.sa_hall.proofs.HallLemmas.{are-quiet, held-some}
use Rattle.sa_hall.proofs.hall.Hall.end.Goals as goal

pub returns : goal.returns
returns g c =
    let self = c.args.self in
    are-quiet g.B.Binding.roll g.B.Binding.ties g.B.Binding.shapes _ _ _ _ _ _ _ _ self.most
    (held-some (λ d. d.it) c.unlocked.result ∙ c.unlocked.ensures.held ∙ self.has_0) (held-some (λ d. d.it) c.unlocked-2.result ∙ c.unlocked-2.ensures.held ∙ self.has_1) (held-some (λ d. d.it) c.unlocked-3.result ∙ c.unlocked-3.ensures.held ∙ self.has_2) (held-some (λ d. d.it) c.unlocked-4.result ∙ c.unlocked-4.ensures.held ∙ self.has_3) (held-some (λ d. d.it) c.unlocked-5.result ∙ c.unlocked-5.ensures.held ∙ self.has_4) (held-some (λ d. d.it) c.unlocked-6.result ∙ c.unlocked-6.ensures.held ∙ self.has_5) (held-some (λ d. d.it) c.unlocked-7.result ∙ c.unlocked-7.ensures.held ∙ self.has_6) (held-some (λ d. d.it) c.unlocked-8.result ∙ c.unlocked-8.ensures.held ∙ self.has_7)
    c.unlocked.ensures.placed c.unlocked-2.ensures.placed c.unlocked-3.ensures.placed c.unlocked-4.ensures.placed c.unlocked-5.ensures.placed c.unlocked-6.ensures.placed c.unlocked-7.ensures.placed c.unlocked-8.ensures.placed
