use Rattle.std.proofs.Common.{◌≡◌, List, length, sym, ap, ◌∙◌}
use Rattle.std.specs.List.{slice_get}
use Rattle.sa_plain.specs.Plains.{PlainValue}
use Rattle.sa_work.proofs.ThreadLemmas.{plain-none, plain-some}
use Rattle.sa_work.proofs.threaded.ThreadedGathered.plain.Goals as goal

pub returns : goal.returns
returns c =
    let t = c.args.self.now in
    c.plain_of.ensures ∙ ap (λ (ps : List PlainValue). slice_get ps c.args.k) c.plains.ensures
    ∙ plain-some t.quiet (length t.decls.now.descrs) c.args.number c.args.k c.in_ok-domain.domain.now.it t.there (sym c.in_ok-domain.ensures)
