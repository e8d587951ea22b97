use Rattle.std.proofs.Common.{ℕ, List, ◌+◌, ◌-◌, ◌++◌, sym, ap, ◌∙◌}
use Rattle.std.specs.List.{flat_map}
use Rattle.sa_loop.specs.Histories.{marked_calls}
use Rattle.sa_report.specs.Reports.{spaced_pair}
use Rattle.sa_report.proofs.ReportLemmas.{marks-taken, marks-passed}
use Rattle.sa_report.proofs.StepLemmas.{onward}
use Rattle.sa_report.proofs.tasks.push_task_marks.Goals as goal
use Rattle.sa_report.proofs.tasks.push_task_marks.Goals.{then-marked+in_ok-push_pair, else-marked}

pub loop-call-preserved : goal.loop-call-preserved
loop-call-preserved g c =
    let task = c.args.task in
    let k = c.loop-call.call in
    let n = c.args.calls in
    let marked = g.H.Gathered.marks c.args.from.now task in
    let left : List ℕ = flat_map spaced_pair (marked_calls marked task k (n - k)) in
    let rest : List ℕ = flat_map spaced_pair (marked_calls marked task (k + 1) (n - (k + 1))) in
    elim c.if-marked.branch [
      | then-marked+in_ok-push_pair w ↦
          onward c.if-marked.out.items c.loop-call.out.items (spaced_pair (task, k)) rest left (c.args.out.now.items ++ flat_map spaced_pair (marked_calls marked task 0 n))
          (ap (λ v. v.items) w.out-is ∙ w.in_ok-push_pair.ensures) (marks-taken marked task k n c.loop-call-test.true (sym c.marked.ensures ∙ w.if-marked.true)) c.loop-call.invariant
      | else-marked w ↦
          ap (λ (bytes : List ℕ). bytes ++ rest) (ap (λ v. v.items) w.out-is)
          ∙ (ap (λ ps. c.loop-call.out.items ++ flat_map spaced_pair ps) (sym (marks-passed marked task k n c.loop-call-test.true (sym c.marked.ensures ∙ w.if-marked.false))) ∙ c.loop-call.invariant)
    ]
