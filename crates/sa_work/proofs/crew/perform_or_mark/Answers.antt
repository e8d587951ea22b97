use Rattle.std.proofs.Common.{◌≡◌, sym, ap, ◌∙◌, subst}
use Rattle.std.specs.Result.{IfOk, OnErr}
use Rattle.sa_call.specs.Decls.{Declared}
use Rattle.sa_call.specs.Valid.{IsCall}
use Rattle.sa_loop.specs.Histories.{no_call}
use Rattle.sa_loop.specs.Locked.{IsOneLineMore}
use Rattle.sa_hall.specs.Passes.{Passed, with_mark}
use Rattle.sa_loop.specs.declared.act.Act.{Act}
use Rattle.sa_loop.proofs.HistoryLemmas.{at_marked, at_performed}
use Rattle.sa_work.proofs.ThreadLemmas.{all-there, there}
use Rattle.sa_work.proofs.crew.perform_or_mark.Goals as goal

pub perform_call-requires-clause-call : goal.perform_call-requires-clause-call
perform_call-requires-clause-call g c =
    let decls = c.args.crew.now.script.now.decls in
    let call = c.index-calls-number.result in
    let valid = all-there (IsCall decls) c.args.calls.now c.args.number call c.requires.valid c.requires.within in
    subst (λ (d : Declared). IsCall d call) (sym c.decls-decls.ensures) (subst (IsCall decls) (sym c.index-calls-number.is) valid)

pub returns-in-Ok-default-clause-at : goal.returns-in-Ok-default-clause-at
returns-in-Ok-default-clause-at g c =
    let decls = c.args.crew.now.script.now.decls in
    let calls = c.args.calls.now in
    let call = c.index-calls-number.result in
    let next = c.perform_call.result.1.it in
    let one = subst (λ r. IfOk r (λ reply. IsOneLineMore c.decls-decls.result.now call c.args.number reply c.args.pass.it next)) c.in-Ok-default.is-0 c.perform_call.ensures.done in
    at_performed decls call c.in-Ok-default.field-0-0 calls c.args.number c.args.pass.it next c.requires.at
    (subst (λ (d : Declared). IsOneLineMore d call c.args.number c.in-Ok-default.field-0-0 c.args.pass.it next) c.decls-decls.ensures one)
    (there calls c.args.number call no_call c.requires.within c.index-calls-number.is)

pub returns-clause-at : goal.returns-clause-at
returns-clause-at g c =
    let decls = c.args.crew.now.script.now.decls in
    let same = subst (λ r. OnErr r (c.perform_call.result.1.it ≡ c.args.pass.it)) c.in-Err-default.is-0 c.perform_call.ensures.kept in
    at_marked decls c.args.calls.now c.args.number c.args.pass.it c.marked.result.it c.requires.at c.requires.within (c.marked.ensures ∙ ap (λ (p : Passed Act). with_mark p c.args.number) same)
