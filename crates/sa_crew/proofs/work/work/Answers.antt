use Rattle.std.proofs.Common.{◌++◌, ◌∷◌, [], sym, ap, ◌∙◌, subst, append_assoc}
use Rattle.std.specs.List.{AllByRecursion, AllZip}
use Rattle.std.proofs.lemmas.List.Elements.{AllZip-push}
use Rattle.sa_crew.proofs.work.work.Goals as goal

pub loop-thing-preserved : goal.loop-thing-preserved
loop-thing-preserved g c =
    let l = c.loop-thing in
    let x = c.in-Some.thing in
    let ready = subst (AllByRecursion (g.J.Job.ready c.args.job.now)) c.in-Some.ensures.steps.0 l.invariant.ready in
    record {
      split = append_assoc l.yielded (x ∷ []) c.next.new.self.rest.items ∙ ap (λ ts. l.yielded ++ ts) (sym c.in-Some.ensures.steps.0) ∙ l.invariant.split;
      ready = ready.1;
      done = subst (λ ys. AllZip (g.J.Job.done c.args.job.now) (l.yielded ++ x ∷ []) ys) (sym c.in_ok-push.ensures.items)
          (AllZip-push (g.J.Job.done c.args.job.now) l.yielded l.all.items x c.perform.result l.invariant.done c.perform.ensures);
    }
