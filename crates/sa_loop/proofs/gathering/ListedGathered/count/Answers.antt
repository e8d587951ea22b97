use Rattle.std.proofs.Common.{length, map}
use Rattle.sa_loop.specs.declared.act.Act.{Act}
use Rattle.sa_loop.proofs.GatheredLemmas.{left-at}
use Rattle.sa_loop.proofs.gathering.ListedGathered.count.Goals as goal

pub returns-clause-played : goal.returns-clause-played
returns-clause-played c =
    let l = c.args.self.now in
    record {
      answers = l.replied;
      states = λ d below. left-at l.decls.now l.rooms.items (map (λ (a : Act). a.body.now) l.acts.items) (length l.decls.now.descrs) d l.left below;
    }
