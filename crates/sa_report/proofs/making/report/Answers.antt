use Rattle.std.proofs.Common.{◌≡◌, ◌++◌, length, map, List, ap, ◌∙◌}
use Rattle.std.specs.List.{flat_map}
use Rattle.sa_call.specs.declared.call.Call.{Call}
use Rattle.sa_loop.specs.Histories.{marked_from}
use Rattle.sa_loop.specs.Runs.{world_of}
use Rattle.sa_report.specs.Plays.{contents_of, stats_in}
use Rattle.sa_report.specs.Reports.{spaced_pair, task_lines}
use Rattle.sa_report.proofs.WholeLemmas.{report-written, report-alike}
use Rattle.sa_report.proofs.making.report.Goals as goal

pub returns : goal.returns
returns g c =
    let script = c.args.script.now in
    let from = c.args.from.now in
    let pairs = g.H.Gathered.pairs from in
    let marks = g.H.Gathered.marks from in
    let replies = g.H.Gathered.replies from in
    let world = world_of (g.H.Gathered.holds from) in
    let tasks : c.as_slice-tasks.result.now ≡ script.tasks = c.as_slice-tasks.ensures ∙ c.tasks.ensures.tasks in
    report-written script pairs marks replies (contents_of script.decls world) (stats_in script.decls world) c.new-out.result.items c.push_bytes.new.out.items c.push_history.new.out.items c.push_bytes-2.new.out.items c.push_marks.new.out.items
    c.push_bytes-3.new.out.items c.push_tasks.new.out.items c.push_arrays.new.out.items c.push_all_stats.new.out.items c.push_bytes-4.new.out.items
    c.new-out.ensures.items c.in_ok-push_bytes.ensures c.in_ok-push_history.ensures.written c.in_ok-push_bytes-2.ensures
    (c.in_ok-push_marks.ensures ∙ ap (λ (ts : List (List Call)). c.push_bytes-2.new.out.items ++ flat_map spaced_pair (marked_from marks 0 (map length ts))) tasks)
    c.in_ok-push_bytes-3.ensures
    (c.in_ok-push_tasks.ensures ∙ ap (λ (ts : List (List Call)). c.push_bytes-3.new.out.items ++ task_lines pairs marks replies 0 ts) tasks)
    c.in_ok-push_arrays.ensures c.in_ok-push_all_stats.ensures c.in_ok-push_bytes-4.ensures
    ∙ report-alike script (g.H.Gathered.declared from) pairs marks (g.H.Gathered.holds from) (g.H.Gathered.bodies from) replies c.requires.decls c.requires.bodies c.push_history.ensures.played c.tasks.ensures.sound.declared
