use Rattle.std.proofs.Common.{arith, ◌∙◌, ap, ◌+◌}
use Rattle.std.specs.List.{prefix_len}
use Rattle.std.proofs.lemmas.List.{take_rest}
use Rattle.std.proofs.lemmas.List.Sums.{prefix_len-le-length}
use Rattle.sa_runs.specs.Runs.{is_plain}
use Rattle.sa_runs.proofs.RunLemmas.{run_through, run_stops}
use Rattle.sa_runs.proofs.run.plain_len_16.Goals as goal

pub returns-then-marks-ne0 : goal.returns-then-marks-ne0
returns-then-marks-ne0 c =
    let text = c.args.text.now in
    let is = run_stops 16 c.marks_16-marks.result text (omega arith) (omega arith) c.marks_16-marks.ensures (omega arith) in
    record {
      plain = is;
      within = omega (arith, is, prefix_len-le-length is_plain text);
    }

pub returns-clause-plain : goal.returns-clause-plain
returns-clause-plain c =
    let text = c.args.text.now in
    let through = run_through 16 c.marks_16-marks.result text (omega arith) c.marks_16-marks.ensures (omega arith) in
    ap (λ n. 16 + n) (c.plain_len_8-2.ensures.plain ∙ ap (prefix_len is_plain) (take_rest text 16)) ∙ through
