use Rattle.std.proofs.Common.{◌∙◌}
use Rattle.strarr.proofs.SampleLemmas.{sample-responds}
use Rattle.strarr.proofs.top.perform_sample.Goals as goal

pub returns-clause-ends : goal.returns-clause-ends
returns-clause-ends g c = λ source. sample-responds c.args.number c.as_slice.result.now source _ _ c.respond.result (c.as_slice.ensures.value ∙ c.in_ok-bytes.ensures) c.respond.ensures
