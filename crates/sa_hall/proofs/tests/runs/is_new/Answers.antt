use Rattle.std.proofs.Common.{◌≡◌, List, length, sym, ap, ◌∙◌}
use Rattle.sa_journal.specs.Chains.{Strand}
use Rattle.sa_hall.proofs.HoldLemmas.{same_number}
use Rattle.sa_hall.proofs.RunLemmas.{is-opening}
use Rattle.sa_hall.proofs.tests.runs.is_new.Goals as goal

pub returns : goal.returns
returns g c e =
    let none = sym (c.count.ensures ∙ ap (λ (s : Strand g.row.D.Denot). length s.lines) c.chain.ensures.chain) ∙ same_number c.count.result 0 e in
    is-opening g.D.Deed.said g.B.Binding.roll g.B.Binding.ties g.B.Binding.shapes c.args.held.now.numbers c.args.held.now.hold.its 0 c.domain.result.now.it _ c.numbers.ensures.taken c.domain.ensures.it c.chain.ensures.left none c.requires.shape
