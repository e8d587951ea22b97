use Rattle.std.proofs.Common.{◌-◌, Result, Ok, Err, subst}
use Rattle.std.specs.List.{AllZip}
use Rattle.std.specs.Result.{IfOk}
use Rattle.sa_crew.proofs.ShareLemmas.{all_made, woven_fits}
use Rattle.sa_crew.proofs.work.+fn-work_all-join+arg3+work_all.Goals as goal

pub woven-requires : goal.woven-requires
woven-requires g t c =
    let R = g.J.Job.done c.args.job.now in
    let mine = c.in_ok-mine.mine.items in
    let rest = c.in_ok-mine.rest.items in
    let made_mine = subst (λ r. IfOk r (λ v. AllZip R mine v.items)) c.in_ok-mine-2.was c.join-mine.ensures.first in
    let made_rest = subst (λ r. IfOk r (λ v. AllZip R rest v.items)) c.in_ok-rest.was c.join-mine.ensures.second in
    woven_fits R (c.args.workers - 1) c.args.things.items mine rest c.in_ok-mine-2.field-0.items c.in_ok-rest.field-0.items c.in_ok-mine.ensures.firsts c.in_ok-mine.ensures.others made_mine made_rest

ok_three : {T E : Type 0} {A B C D : T → Type 0} (r : Result T E) → IfOk r A → IfOk r B → IfOk r C → ((x : T) → A x → B x → C x → D x) → IfOk r D
ok_three (Ok x) a b c all = all x a b c
ok_three (Err e) a b c all = tt

pub returns : goal.returns
returns g t c =
    let R = g.J.Job.done c.args.job.now in
    let mine = c.in_ok-mine.mine.items in
    let rest = c.in_ok-mine.rest.items in
    let made_mine = subst (λ r. IfOk r (λ v. AllZip R mine v.items)) c.in_ok-mine-2.was c.join-mine.ensures.first in
    let made_rest = subst (λ r. IfOk r (λ v. AllZip R rest v.items)) c.in_ok-rest.was c.join-mine.ensures.second in
    ok_three c.woven.result c.woven.ensures.firsts c.woven.ensures.others c.woven.ensures.many
    (λ v first other many. all_made R (c.args.workers - 1) c.args.things.items mine rest c.in_ok-mine-2.field-0.items c.in_ok-rest.field-0.items v.items c.in_ok-mine.ensures.firsts c.in_ok-mine.ensures.others made_mine made_rest first other many)
