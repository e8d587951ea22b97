use Rattle.sa_search.proofs.CutLemmas.{cut-last, cut-none}
use Rattle.sa_search.proofs.cuts.cut_last.Goals as goal

pub returns-in_err-at : goal.returns-in_err-at
returns-in_err-at c =
    rw c.from_residual.ensures (cut-none c.args.bytes.now c.args.part.now c.requires.utf8 c.requires.part_utf8 c.requires.some c.in_err-at.ensures)

pub returns : goal.returns
returns c =
    cut-last c.args.bytes.now c.args.part.now c.split_at.result.0.now c.in_ok-at.at
    c.requires.utf8 c.requires.part_utf8 c.requires.some c.in_ok-at.ensures.0 c.in_ok-at.ensures.1 c.split_at.ensures.front
