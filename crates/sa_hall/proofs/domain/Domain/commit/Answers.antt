use Rattle.std.proofs.Common.{sym, subst}
use Rattle.sa_hall.specs.Domains.{DomainValue}
use Rattle.sa_hall.specs.Changes.{contents_of, writes_by, FitsHere}
use Rattle.sa_hall.proofs.DomainLemmas.{domain-commits}
use Rattle.sa_hall.proofs.domain.Domain.commit.Goals as goal

pub invariant_of-self : goal.invariant_of-self
invariant_of-self g c =
    let fits = subst (λ (v : DomainValue g.row.D.Denot). FitsHere (g.D.Deed.said c.args.turn.now.line.1.deed) c.args.change v.it v.store) (sym c.self.view_is) c.requires.fits in
    domain-commits g.D.Deed.said c.self.inside.number (contents_of c.self.inside.store c.self.inside.plains.items) (contents_of c.carry_out.new.store c.carry_out.new.plains.items) c.self.inside.chain.it c.link.new.chain.it
    c.args.turn.now.line (writes_by c.args.change) c.self.invariant c.link.ensures.chain fits.reads fits.writes c.carry_out.ensures
