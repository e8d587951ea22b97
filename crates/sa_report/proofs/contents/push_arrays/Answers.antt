use Rattle.std.proofs.Common.{◌≡◌, ◌++◌, ◌<◌, length, drop, ◌+◌, List, Some, sym, ap, ◌∙◌, subst}
use Rattle.std.specs.List.{slice_get}
use Rattle.sa_plain.specs.declared.items.Items.{Items}
use Rattle.sa_call.specs.declared.decls.ArrayDecl.{ArrayDecl}
use Rattle.sa_call.specs.Decls.{Declared}
use Rattle.sa_loop.specs.Runs.{world_of}
use Rattle.sa_script.specs.Names.{Known}
use Rattle.sa_report.specs.Plays.{contents_at, contents_of}
use Rattle.sa_report.specs.Reports.{array_line, array_lines}
use Rattle.sa_report.proofs.ReportLemmas.{array_lines-drop}
use Rattle.sa_report.proofs.StepLemmas.{made-at, onward}
use Rattle.sa_report.proofs.contents.push_arrays.Goals as goal

pub loop-k-preserved : goal.loop-k-preserved
loop-k-preserved g c =
    let decls = c.args.script.now.decls in
    let names = c.args.script.now.names.arrays in
    let world = world_of (g.H.Gathered.holds c.args.from.now) in
    let contents = contents_of decls world in
    let k = c.loop-k.k in
    let name = c.in-Some.name.now in
    let below : k < length decls.arrays = subst (λ (ds : List ArrayDecl). k < length ds) (c.arrays-k-end.ensures.arrays ∙ ap (λ (d : Declared). d.arrays) c.decls-decls.ensures) c.loop-k-test.true in
    let items : Items = contents_at decls world k in
    let named : slice_get names k ≡ Some name = sym (c.in-Some.ensures ∙ ap (λ (n : Known). slice_get n.arrays k) c.names.ensures) in
    onward c.push_array.new.out.items c.loop-k.out.items (array_line name items) (array_lines (drop (k + 1) names) (drop (k + 1) contents)) (array_lines (drop k names) (drop k contents)) (c.args.out.now.items ++ array_lines names contents)
    (c.in_ok-push_array.ensures ∙ ap (λ (d : Declared). c.loop-k.out.items ++ array_line name (contents_at d world k)) c.decls-decls.ensures)
    (array_lines-drop names contents k name items named (made-at (contents_at decls world) (length decls.arrays) k below))
    c.loop-k.invariant
