use Rattle.std.proofs.Common.{◌≡◌, ◌++◌, ◌<◌, length, drop, ◌+◌, Some, sym, ap, ◌∙◌, arith}
use Rattle.std.specs.List.{slice_get}
use Rattle.sa_base.specs.declared.stats.Stats.{Stats}
use Rattle.sa_alloc.specs.Layouts.{Layout, stats_of}
use Rattle.sa_call.specs.Decls.{Declared}
use Rattle.sa_loop.specs.Gathers.{store_at}
use Rattle.sa_loop.specs.Runs.{world_of}
use Rattle.sa_script.specs.Names.{Known}
use Rattle.sa_report.specs.Plays.{stats_in}
use Rattle.sa_report.specs.Reports.{stats_line, stats_lines}
use Rattle.sa_report.proofs.ContentLemmas.{store-layout}
use Rattle.sa_report.proofs.ReportLemmas.{stats_lines-drop}
use Rattle.sa_report.proofs.StepLemmas.{made-at, onward}
use Rattle.sa_report.proofs.contents.push_all_stats.Goals as goal

pub loop-k-preserved : goal.loop-k-preserved
loop-k-preserved g c =
    let decls = c.args.script.now.decls in
    let names = c.args.script.now.names.descrs in
    let holds = g.H.Gathered.holds c.args.from.now in
    let stats = stats_in decls (world_of holds) in
    let k = c.loop-k.k in
    let name = c.in-Some.name.now in
    let l = c.in-Some-store.store.now.contents.layout in
    let count = ap (λ ds. length ds) (c.descrs-k-end.ensures ∙ ap (λ (d : Declared). d.descrs) c.decls.ensures) in
    let below : k < length decls.descrs = omega arith in
    let got : Some l ≡ store_at (length decls.descrs) holds k = c.in-Some-store.ensures.store ∙ ap (λ (d : Declared). store_at (length d.descrs) holds k) c.requires.decls in
    let layout = store-layout (length decls.descrs) holds k l below got in
    let figures : c.stats.result ≡ stats_of (holds k).layout = c.stats.ensures.stats ∙ ap (λ (m : Layout). stats_of m) layout in
    let named : slice_get names k ≡ Some name = sym (c.in-Some.ensures ∙ ap (λ (n : Known). slice_get n.descrs k) c.names.ensures) in
    onward c.push_stats.new.out.items c.loop-k.out.items (stats_line name (stats_of (holds k).layout)) (stats_lines (drop (k + 1) names) (drop (k + 1) stats)) (stats_lines (drop k names) (drop k stats)) (c.args.out.now.items ++ stats_lines names stats)
    (c.in_ok-push_stats.ensures ∙ ap (λ (s : Stats). c.loop-k.out.items ++ stats_line name s) figures)
    (stats_lines-drop names stats k name (stats_of (holds k).layout) named (made-at (λ d. stats_of (world_of holds d).layout) (length decls.descrs) k below))
    c.loop-k.invariant
