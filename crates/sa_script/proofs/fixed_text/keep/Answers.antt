use Rattle.std.proofs.Common.{arith}
use Rattle.sa_script.proofs.FixedTextLemmas.{keep-full, keep-more}
use Rattle.sa_script.proofs.fixed_text.keep.Goals as goal

pub returns-then-len-ge-MOST_CELLS : goal.returns-then-len-ge-MOST_CELLS
returns-then-len-ge-MOST_CELLS g c = keep-full c.args.cells.now c.args.cell c.requires (omega (arith, c.len.ensures, c.if-len-ge-MOST_CELLS.true))

pub returns-in-Ok : goal.returns-in-Ok
returns-in-Ok g c = keep-more c.args.cells.now c.push.new.self c.args.cell (omega (arith, c.len.ensures, c.if-len-ge-MOST_CELLS.false)) c.in-Ok.ensures.ok
