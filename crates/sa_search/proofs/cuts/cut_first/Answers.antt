use Rattle.std.proofs.Common.{length, drop, ap, ap₂, ◌∙◌}
use Rattle.sa_search.proofs.CutLemmas.{cut-first, cut-none}
use Rattle.sa_search.proofs.cuts.cut_first.Goals as goal

pub returns-in_err-at : goal.returns-in_err-at
returns-in_err-at c =
    rw c.from_residual.ensures (cut-none c.args.bytes.now c.args.part.now c.requires.utf8 c.requires.part_utf8 c.requires.some c.in_err-at.ensures)

pub returns : goal.returns
returns c =
    cut-first c.args.bytes.now c.args.part.now c.split_at.result.0.now c.split_at-2.result.1.now c.in_ok-at.at
    c.requires.utf8 c.requires.part_utf8 c.requires.some c.in_ok-at.ensures.0 c.in_ok-at.ensures.1
    c.split_at.ensures.front (c.split_at-2.ensures.back ∙ ap₂ drop (ap length c.needle.ensures) c.split_at.ensures.back)
