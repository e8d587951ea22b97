use Rattle.strarr.proofs.NamedLemmas.{if-ok-more, is-report}
use Rattle.strarr.proofs.top.report_in_threads.Goals as goal

pub report-bytes-requires-clause-decls : goal.report-bytes-requires-clause-decls
report-bytes-requires-clause-decls c c' = c'.in_ok-run.ensures.decls

pub report-bytes-requires-clause-history : goal.report-bytes-requires-clause-history
report-bytes-requires-clause-history c c' = c'.in_ok-run.ensures.history

pub report-bytes-requires-clause-bodies : goal.report-bytes-requires-clause-bodies
report-bytes-requires-clause-bodies c c' = c'.in_ok-run.ensures.bodies

pub returns : goal.returns
returns c c' =
    if-ok-more c'.report-bytes.result _ _
    (λ bytes made. is-report c'.args.script.now _ _ bytes.items c'.tasks-sound.ensures.sound c'.in_ok-run.ensures.history made)
    c'.report-bytes.ensures
