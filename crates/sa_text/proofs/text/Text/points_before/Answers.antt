use Rattle.std.proofs.Common.{take, count_by, ap, ◌∙◌}
use Rattle.sa_text.specs.Points.{is_lead}
use Rattle.sa_text.proofs.PointLemmas.{count-before}
use Rattle.sa_text.proofs.text.Text.points_before.Goals as goal

pub returns : goal.returns
returns c =
    c.count_leads.ensures.leads
    ∙ ap (count_by is_lead) (c.split_at.ensures.front ∙ ap (take c.args.at) c.as_bytes.ensures.bytes)
    ∙ count-before c.args.self.now c.args.at c.requires
