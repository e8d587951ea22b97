use Rattle.sa_hall.specs.Halls.{IsOfEnded, IsWhole}
use Rattle.sa_hall.proofs.HallLemmas.{of-each, of-one}
use Rattle.sa_hall.proofs.quiet.Quiet.compare.Goals as goal

pub compare_each-requires : goal.compare_each-requires
compare_each-requires g c = (c.type_bounds.send-D, (c.type_bounds.sync-D, of-each (λ k. IsOfEnded c.args.ended.now k) c.args.self.now c.requires.of))

pub returns-clause-whole : goal.returns-clause-whole
returns-clause-whole g c = of-one (λ k. IsWhole g.D.Deed.said c.compare_each.new.ended.lines k) c.compare_each.new.self c.compare_each.ensures.whole
