use Rattle.std.proofs.Common.{◌≡◌, ap, sym, ◌∙◌}
use Rattle.sa_journal.specs.Shapes.{Shape}
use Rattle.sa_hall.specs.Contents.{shape_of, opening_of}
use Rattle.sa_hall.specs.Domains.{plains_said}
use Rattle.sa_hall.specs.Changes.{contents_of}
use Rattle.sa_hall.proofs.WriteLemmas.{shape-opening}
use Rattle.sa_hall.proofs.DomainLemmas.{domain-opens}
use Rattle.sa_hall.proofs.domain.Domain.new.Goals as goal

pub invariant_of-result : goal.invariant_of-result
invariant_of-result g c =
    let shape : Shape = record { strings = c.args.lengths.now; plains = plains_said c.args.plains.now } in
    let opening : contents_of c.in_ok-new.field-0 c.in_ok-opening_plains.field-0.items ≡ opening_of shape = λ i. record { layout = (c.in_ok-new.ensures i).contents.layout; plains = c.in_ok-opening_plains.ensures i } in
    (sym c.party.ensures ∙ c.in-Descr.is, domain-opens g.D.Deed.said c.in-Descr.number _ shape c.args.chain.it.lines opening c.requires.empty)

pub returns-clause-shape : goal.returns-clause-shape
returns-clause-shape g c =
    let shape : Shape = record { strings = c.args.lengths.now; plains = plains_said c.args.plains.now } in
    let opening : contents_of c.in_ok-new.field-0 c.in_ok-opening_plains.field-0.items ≡ opening_of shape = λ i. record { layout = (c.in_ok-new.ensures i).contents.layout; plains = c.in_ok-opening_plains.ensures i } in
    ap shape_of opening ∙ shape-opening shape
