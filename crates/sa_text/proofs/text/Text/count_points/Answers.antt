use Rattle.std.proofs.Common.{length, ap, ◌∙◌}
use Rattle.sa_text.proofs.PointLemmas.{count-utf8}
use Rattle.sa_text.proofs.text.Text.count_points.Goals as goal

pub returns-clause-points : goal.returns-clause-points
returns-clause-points c = c.count_leads.ensures.leads ∙ count-utf8 c.as_bytes.result.now c.as_bytes.ensures.utf8 ∙ ap length c.as_bytes.ensures.points
