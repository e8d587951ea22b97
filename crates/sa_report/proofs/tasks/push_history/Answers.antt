use Rattle.std.proofs.Common.{◌≡◌, ℕ, ◌+◌, ◌++◌, drop, sym, ap₂, ◌∙◌, Some}
use Rattle.std.specs.List.{flat_map, slice_get}
use Rattle.sa_loop.specs.Gathers.{act_pair}
use Rattle.sa_report.specs.Reports.{spaced_pair}
use Rattle.sa_report.proofs.ReportLemmas.{pairs-drop}
use Rattle.sa_report.proofs.StepLemmas.{onward}
use Rattle.sa_report.proofs.tasks.push_history.Goals as goal

pub loop-k-preserved : goal.loop-k-preserved
loop-k-preserved g c =
    let pairs = g.H.Gathered.pairs c.args.from.now in
    let k = c.loop-k.k in
    let p = act_pair c.in-Some.act.now in
    let got : slice_get pairs k ≡ Some p = sym c.in-Some.ensures.pair in
    let written : c.push_pair.new.out.items ≡ c.loop-k.out.items ++ spaced_pair p = c.in_ok-push_pair.ensures ∙ ap₂ (λ (task call : ℕ). c.loop-k.out.items ++ spaced_pair (task, call)) c.task.ensures c.call.ensures in
    onward c.push_pair.new.out.items c.loop-k.out.items (spaced_pair p) (flat_map spaced_pair (drop (k + 1) pairs)) (flat_map spaced_pair (drop k pairs)) (c.args.out.now.items ++ flat_map spaced_pair pairs)
    written (pairs-drop pairs k p got) c.loop-k.invariant
