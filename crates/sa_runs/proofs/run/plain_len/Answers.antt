use Rattle.std.proofs.Common.{◌≡◌, ◌+◌, ◌∙◌, ap, arith, length, length-drop, take}
use Rattle.std.specs.List.{list_all, prefix_len}
use Rattle.std.specs.Int.Count.{count_trailing_zeros}
use Rattle.std.proofs.lemmas.List.{take_rest}
use Rattle.std.proofs.lemmas.List.Sums.{prefix_len-le-length}
use Rattle.sa_runs.specs.Runs.{is_plain}
use Rattle.sa_runs.proofs.RunLemmas.{run_through, run_stops, run_plain}
use Rattle.sa_runs.proofs.run.plain_len.Goals as goal

pub returns-then-marks-ne0 : goal.returns-then-marks-ne0
returns-then-marks-ne0 c =
    let rest = c.vectors.rest.now in
    let is = run_stops 32 c.marks_32-marks.result rest (omega arith) (omega arith) c.marks_32-marks.ensures (omega arith) in
    let plain : c.vectors.ran + count_trailing_zeros 64 c.marks_32-marks.result ≡ prefix_len is_plain c.args.text.now = omega (arith, is, c.vectors.invariant.same) in
    record {
      plain = plain;
      within = omega (arith, is, c.vectors.invariant.count, prefix_len-le-length is_plain rest);
      front = ap (λ n. list_all is_plain (take n c.args.text.now)) plain ∙ run_plain c.args.text.now;
    }

pub returns-clause-front : goal.returns-clause-front
returns-clause-front c =
    let plain : c.vectors.ran + c.plain_len_16.result ≡ prefix_len is_plain c.args.text.now = omega (arith, c.plain_len_16.ensures.plain, c.vectors.invariant.same) in
    ap (λ n. list_all is_plain (take n c.args.text.now)) plain ∙ run_plain c.args.text.now

pub vectors-preserved : goal.vectors-preserved
vectors-preserved c =
    let rest = c.vectors.rest.now in
    let through = run_through 32 c.marks_32-marks.result rest (omega arith) c.marks_32-marks.ensures (omega arith) in
    record {
      same = omega (arith, through, c.vectors.invariant.same, ap (prefix_len is_plain) (take_rest rest 32));
      count = omega (arith, c.vectors.invariant.count, ap length (take_rest rest 32), length-drop 32 rest);
    }
