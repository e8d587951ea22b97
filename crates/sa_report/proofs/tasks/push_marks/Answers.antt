use Rattle.std.proofs.Common.{◌≡◌, List, ◌+◌, ◌++◌, length, map, drop, Some, refl, ap, ◌∙◌}
use Rattle.std.specs.List.{flat_map, slice_get}
use Rattle.std.specs.Option.{option_map}
use Rattle.std.proofs.lemmas.Option.{slice_get-map, slice_get_read}
use Rattle.sa_call.specs.declared.call.Call.{Call}
use Rattle.sa_loop.specs.Histories.{marked_calls, marked_from}
use Rattle.sa_report.specs.Reports.{spaced_pair}
use Rattle.sa_report.proofs.ReportLemmas.{marks-drop}
use Rattle.sa_report.proofs.StepLemmas.{onward}
use Rattle.sa_report.proofs.tasks.push_marks.Goals as goal

pub loop-task-preserved : goal.loop-task-preserved
loop-task-preserved g c =
    let tasks = c.args.tasks.now in
    let k = c.loop-task.task in
    let marks = g.H.Gathered.marks c.args.from.now in
    let calls : List Call = c.index-tasks-task.result in
    let got : slice_get (map length tasks) k ≡ Some (length calls) = slice_get-map length tasks k ∙ ap (option_map length) (slice_get_read tasks (length tasks) k calls refl c.loop-task-test.true c.index-tasks-task.is) in
    onward c.push_task_marks.new.out.items c.loop-task.out.items (flat_map spaced_pair (marked_calls (marks k) k 0 (length calls)))
    (flat_map spaced_pair (marked_from marks (k + 1) (drop (k + 1) (map length tasks)))) (flat_map spaced_pair (marked_from marks k (drop k (map length tasks))))
    (c.args.out.now.items ++ flat_map spaced_pair (marked_from marks 0 (map length tasks)))
    (c.in_ok-push_task_marks.ensures ∙ ap (λ n. c.loop-task.out.items ++ flat_map spaced_pair (marked_calls (marks k) k 0 n)) c.len.ensures)
    (marks-drop marks (map length tasks) k (length calls) got) c.loop-task.invariant
