use Rattle.std.proofs.Common.{◌+◌, ◌-◌, ◌∷◌, [], drop, length, map, sym, ap, subst, ◌∙◌}
use Rattle.sa_call.specs.declared.call.Call.{Call}
use Rattle.sa_call.specs.Valid.{IsCall}
use Rattle.sa_loop.specs.declared.act.Act.{Act}
use Rattle.sa_loop.specs.Gathers.{act_pair}
use Rattle.sa_loop.specs.Histories.{pairs_from}
use Rattle.sa_work.proofs.SerialLemmas.{bodies-more, calls-drop, moved-on, pairs-more, pairs_from-more}
use Rattle.sa_work.proofs.serial.perform_task.Goals as goal

pub loop-number-preserved : goal.loop-number-preserved
loop-number-preserved c =
    let calls = c.args.calls.now in
    let task = c.args.task in
    let k = c.loop-number.number in
    let call = c.index-calls-number.result in
    let more = c.in_ok-perform.ensures.act in
    let body = λ (a : Act). a.body.now in
    record {
      decls = c.in_ok-perform.ensures.decls ∙ c.loop-number.invariant.decls;
      pairs = moved-on (map act_pair c.loop-number.run.acts.items) (map act_pair c.perform.new.self.acts.items) ((task, k) ∷ []) (pairs_from task k (length calls - k)) (pairs_from task (k + 1) (length calls - (k + 1))) _
          (pairs-more c.loop-number.run.acts.items c.perform.new.self.acts.items more.act task k more.more more.task_is more.number_is) (pairs_from-more task k (length calls) c.loop-number-test.true) c.loop-number.invariant.pairs;
      bodies = moved-on (map body c.loop-number.run.acts.items) (map body c.perform.new.self.acts.items) (call ∷ []) (drop k calls) (drop (k + 1) calls) _
          (bodies-more c.loop-number.run.acts.items c.perform.new.self.acts.items more.act call more.more more.body_is) (calls-drop calls k call c.loop-number-test.true ∙ ap (λ (x : Call). x ∷ drop (k + 1) calls) (sym c.index-calls-number.is)) c.loop-number.invariant.bodies;
    }
