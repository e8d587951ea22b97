use Rattle.std.proofs.Common.{count_by, sym, ap, ◌∙◌, arith}
use Rattle.std.proofs.lemmas.List.{take_all}
use Rattle.sa_text.specs.Points.{is_lead}
use Rattle.sa_text.proofs.PointLemmas.{byte_of-lead, byte_of-end, byte_of-past}
use Rattle.sa_text.proofs.points.offset_of.Goals as goal

pub returns-then-left-eq0-clause-at : goal.returns-then-left-eq0-clause-at
returns-then-left-eq0-clause-at c =
    sym (byte_of-lead c.args.bytes.now c.loop-at.at c.args.k c.requires (omega arith) (sym c.is_lead.ensures ∙ c.if-is_lead.true) (omega arith))

pub returns-then-left-eq0-2-clause-at : goal.returns-then-left-eq0-2-clause-at
returns-then-left-eq0-2-clause-at c =
    let bytes = c.args.bytes.now in
    let all = ap (count_by is_lead) (take_all c.loop-at.at bytes (omega arith)) in
    sym (byte_of-end bytes c.args.k c.requires (omega arith))

pub returns-else-left-eq0-2-clause-at : goal.returns-else-left-eq0-2-clause-at
returns-else-left-eq0-2-clause-at c =
    let bytes = c.args.bytes.now in
    let all = ap (count_by is_lead) (take_all c.loop-at.at bytes (omega arith)) in
    sym (byte_of-past bytes c.args.k c.requires (omega arith))
