use Rattle.std.proofs.Common.{sym, subst}
use Rattle.std.specs.List.{AllByRecursion}
use Rattle.std.proofs.lemmas.Result.{MatchResult-weaker}
use Rattle.sa_crew.proofs.ShareLemmas.{firsts-all, others-all}
use Rattle.sa_crew.proofs.work.dealt.Goals as goal

pub returns-clause-mine : goal.returns-clause-mine
returns-clause-mine g c =
    let R = g.J.Job.ready c.args._job.now in
    MatchResult-weaker c.cut.result c.cut.ensures.firsts (λ r e. subst (AllByRecursion R) (sym e) (firsts-all R c.args.skip 0 c.args.things.items c.requires)) (λ m t. t)

pub returns-clause-rest : goal.returns-clause-rest
returns-clause-rest g c =
    let R = g.J.Job.ready c.args._job.now in
    MatchResult-weaker c.cut.result c.cut.ensures.others (λ r e. subst (AllByRecursion R) (sym e) (others-all R c.args.skip 0 c.args.things.items c.requires)) (λ m t. t)
