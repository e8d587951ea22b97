use Rattle.std.proofs.Common.{sym}
use Rattle.std.proofs.lemmas.Result.{MatchResult-weaker}
use Rattle.sa_loop.proofs.TakeLemmas.{taken-whole}
use Rattle.sa_loop.proofs.taking.take.Goals as goal

pub returns-in-Some-clause-taken : goal.returns-in-Some-clause-taken
returns-in-Some-clause-taken g c =
    MatchResult-weaker c.take_whole.result c.take_whole.ensures
    (λ t whole. taken-whole c.args.decls.now (g.R.Rooms.has c.args.rooms.now) (g.R.Rooms.holds c.args.rooms.now) c.args.call.now c.in-Some.number c.store.result.now.contents.layout t.0 t.1 c.requires.can (sym c.in-Some.ensures) c.store.ensures whole)
    (λ m t. t)
