use Rattle.std.proofs.Common.{length, map}
use Rattle.sa_loop.specs.Orders.{line_call}
use Rattle.sa_loop.specs.Plays.{play_world}
use Rattle.sa_loop.specs.Runs.{shown}
use Rattle.sa_work.specs.Threads.{holds_of}
use Rattle.sa_work.proofs.ThreadLemmas.{listed-at}
use Rattle.sa_work.proofs.threaded.ThreadedGathered.count.Goals as goal

pub returns-clause-played : goal.returns-clause-played
returns-clause-played c =
    let t = c.args.self.now in
    let decls = t.decls.now in
    record {
      answers = t.replied;
      states = λ d below. listed-at (λ e. shown (holds_of t.quiet e)) (play_world decls (map line_call t.ended.lines)) (length decls.descrs) d t.left below;
    }
