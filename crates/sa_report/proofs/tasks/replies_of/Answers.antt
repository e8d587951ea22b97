use Rattle.std.proofs.Common.{◌≡◌, List, [], ◌∷◌, ◌+◌, ◌++◌, drop, map, sym, ap, ◌∙◌, Some, Bor}
use Rattle.std.specs.List.{slice_get}
use Rattle.sa_call.specs.declared.reply.Reply.{Reply}
use Rattle.sa_call.specs.declared.reply.Outcome.{Outcome}
use Rattle.sa_loop.specs.Gathers.{act_pair, act_reply}
use Rattle.sa_report.specs.Reports.{replies_of}
use Rattle.sa_report.proofs.ReportLemmas.{reply-pushed, replies_of-taken, replies_of-passed}
use Rattle.sa_report.proofs.StepLemmas.{onward}
use Rattle.sa_report.proofs.tasks.replies_of.Goals as goal
use Rattle.sa_report.proofs.tasks.replies_of.Goals.{then-task+in_ok-push, else-task}

pub loop-k-preserved : goal.loop-k-preserved
loop-k-preserved g c =
    let pairs = g.H.Gathered.pairs c.args.from.now in
    let replies = g.H.Gathered.replies c.args.from.now in
    let task = c.args.task in
    let k = c.loop-k.k in
    let p = act_pair c.in-Some.act.now in
    let r = act_reply c.in-Some.act.now in
    let got : slice_get pairs k ≡ Some p = sym c.in-Some.ensures.pair in
    let reply : slice_get replies k ≡ Some r = sym c.in-Some.ensures.reply in
    elim c.if-task.branch [
      | then-task+in_ok-push w ↦
          onward (map (λ (b : Bor Reply). b.now) c.if-task.replies.items) (map (λ (b : Bor Reply). b.now) c.loop-k.replies.items) (r ∷ []) (replies_of task (drop (k + 1) pairs) (drop (k + 1) replies)) (replies_of task (drop k pairs) (drop k replies)) (replies_of task pairs replies)
          (reply-pushed c.loop-k.replies.items c.if-task.replies.items _ r (ap (λ v. v.items) w.replies-is ∙ w.in_ok-push.ensures.items) (ap (λ (o : Outcome). o.reply) w.outcome.ensures))
          (replies_of-taken task pairs replies k p r got reply (sym c.task.ensures ∙ w.if-task.true)) c.loop-k.invariant
      | else-task w ↦
          ap (λ (v : List (Bor Reply)). map (λ (b : Bor Reply). b.now) v ++ replies_of task (drop (k + 1) pairs) (drop (k + 1) replies)) (ap (λ v. v.items) w.replies-is)
          ∙ (ap (λ (rs : List Reply). map (λ (b : Bor Reply). b.now) c.loop-k.replies.items ++ rs) (sym (replies_of-passed task pairs replies k p r got reply (λ e. w.if-task.false (c.task.ensures ∙ e)))) ∙ c.loop-k.invariant)
    ]
