use Rattle.std.proofs.Common.{◌≡◌}
use Rattle.sa_base.specs.Deeds.{writes_at}
use Rattle.sa_hall.specs.Contents.{after_writes}
use Rattle.sa_hall.specs.Holds.{contents_at}
use Rattle.sa_hall.specs.Moves.{Commits}
use Rattle.sa_hall.proofs.UseLemmas.{commits-contents, on-ok}
use Rattle.sa_hall.proofs.tests.deeds.write.Goals as goal

pub returns-clause-written : goal.returns-clause-written
returns-clause-written g c =
    on-ok (λ n. Commits g.D.Deed.said c.args.deed n c.args.held.now c.commit.new.self)
    (contents_at c.commit.new.self.hold.its 0 ≡ after_writes (contents_at c.args.held.now.hold.its 0) (writes_at (g.D.Deed.said c.args.deed).writes 0))
    c.commit.result (λ n done. commits-contents g.D.Deed.said c.args.deed n c.args.held.now c.commit.new.self 0 done c.requires.held) c.commit.ensures.done
