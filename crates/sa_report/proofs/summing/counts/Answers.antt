use Rattle.std.proofs.Common.{◌≡◌, ◌+◌, cond, Some, sym, ap, ◌∙◌, arith}
use Rattle.std.specs.List.{slice_get}
use Rattle.sa_call.specs.declared.reply.Reply.{Reply}
use Rattle.sa_call.specs.declared.reply.Outcome.{Outcome}
use Rattle.sa_loop.specs.Gathers.{act_reply}
use Rattle.sa_report.specs.Summaries.{is_done, is_refused}
use Rattle.sa_report.proofs.SummaryLemmas.{counted, at-most-one}
use Rattle.sa_report.proofs.summing.counts.Goals as goal

pub loop-k-preserved : goal.loop-k-preserved
loop-k-preserved g c =
    let replies = g.H.Gathered.replies c.args.from.now in
    let k = c.loop-k.k in
    let r = act_reply c.in-Some.act.now in
    let got : slice_get replies k ≡ Some r = sym c.in-Some.ensures.reply in
    let same : c.outcome.result.now.reply ≡ r = ap (λ (o : Outcome). o.reply) c.outcome.ensures in
    let done : c.done_in-done.result ≡ cond (is_done r) 1 0 = c.done_in-done.ensures ∙ ap (λ (a : Reply). cond (is_done a) 1 0) same in
    let refused : c.refused_in-refused.result ≡ cond (is_refused r) 1 0 = c.refused_in-refused.ensures ∙ ap (λ (a : Reply). cond (is_refused a) 1 0) same in (
      counted is_done replies k r c.loop-k.done (c.loop-k.done + c.done_in-done.result) got c.loop-k.invariant.0 (ap (λ n. c.loop-k.done + n) done),
      counted is_refused replies k r c.loop-k.refused (c.loop-k.refused + c.refused_in-refused.result) got c.loop-k.invariant.1 (ap (λ n. c.loop-k.refused + n) refused),
      omega (arith, done, at-most-one (is_done r), c.loop-k.invariant.2),
      omega (arith, refused, at-most-one (is_refused r), c.loop-k.invariant.3),
    )
