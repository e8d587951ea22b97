use Rattle.std.proofs.Common.{get_or, length, sym, ap, ◌∙◌, arith}
use Rattle.sa_text.specs.Points.{is_lead}
use Rattle.sa_text.proofs.PointLemmas.{cut-lead, cut-end}
use Rattle.sa_text.proofs.text.Text.is_char_boundary.Goals as goal

pub returns-then-at-bytes : goal.returns-then-at-bytes
returns-then-at-bytes c =
    let size = ap length c.as_bytes-bytes.ensures.bytes in
    sym (cut-end c.args.self.now c.args.at (omega arith))

pub returns : goal.returns
returns c =
    let size = ap length c.as_bytes-bytes.ensures.bytes in
    c.is_lead.ensures ∙ ap (λ bs. is_lead (get_or bs c.args.at 0)) c.as_bytes-bytes.ensures.bytes ∙ sym (cut-lead c.args.self.now c.args.at (omega arith))
