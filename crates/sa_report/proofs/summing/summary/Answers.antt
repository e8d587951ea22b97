use Rattle.std.proofs.Common.{ℕ, List, ◌++◌, length, codes, ap, ◌∙◌}
use Rattle.sa_loop.specs.Runs.{world_of}
use Rattle.sa_report.specs.Plays.{stats_in}
use Rattle.sa_report.specs.Reports.{stats_lines}
use Rattle.sa_report.specs.Summaries.{counts_line, figure_line}
use Rattle.sa_report.proofs.SummaryLemmas.{five-parts, summary-alike}
use Rattle.sa_report.proofs.summing.summary.Goals as goal

pub returns : goal.returns
returns g c =
    let script = c.args.script.now in
    let from = c.args.from.now in
    let holds = g.H.Gathered.holds from in
    let replies = g.H.Gathered.replies from in
    let report = c.in_ok-report.field-0.items in
    let stats = stats_lines script.names.descrs (stats_in script.decls (world_of holds)) in
    five-parts c.push_figure.new.out.items c.push_figure-2.new.out.items c.push_counts.new.out.items c.push_figure-3.new.out.items c.push_all_stats.new.out.items
    (figure_line (codes "sample ") c.args.number) (figure_line (codes "script ") c.args.size) (counts_line replies) (figure_line (codes "report ") (length report)) stats
    (c.in_ok-push_figure.ensures ∙ (ap (λ out. out ++ figure_line (codes "sample ") c.from.result) c.new-out.ensures.items ∙ ap (λ n. figure_line (codes "sample ") n) c.from.ensures))
    c.in_ok-push_figure-2.ensures c.in_ok-push_counts.ensures.written
    (c.in_ok-push_figure-3.ensures ∙ ap (λ n. c.push_counts.new.out.items ++ figure_line (codes "report ") n) (ap (λ (bytes : List ℕ). length bytes) c.as_slice-length.ensures.value))
    c.in_ok-push_all_stats.ensures
    ∙ summary-alike c.args.number c.args.size script (g.H.Gathered.declared from) (g.H.Gathered.pairs from) (g.H.Gathered.marks from) holds (g.H.Gathered.bodies from) replies report
    c.requires.decls c.requires.bodies c.push_counts.ensures.played c.in_ok-report.ensures
