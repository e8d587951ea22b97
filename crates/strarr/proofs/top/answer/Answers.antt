use Rattle.std.proofs.Common.{ap, ◌∙◌}
use Rattle.sa_loop.specs.Histories.{calls_of}
use Rattle.sa_work.proofs.SerialLemmas.{serial-is-history}
use Rattle.strarr.proofs.top.answer.Goals as goal

pub report-requires-clause-history : goal.report-requires-clause-history
report-requires-clause-history c = record {
  calls = λ task. ap (calls_of task) c.in_ok-run-in-Ok.ensures.history ∙ (serial-is-history c.in-Ok.script.tasks).calls task;
}
