use Rattle.std.proofs.Common.{arith, sym, ◌∙◌}
use Rattle.sa_script.proofs.DeclLemmas.{entries_pass}
use Rattle.sa_script.proofs.faults.passes.Goals as goal

pub returns-then-len-room : goal.returns-then-len-room
returns-then-len-room c =
    entries_pass c.args.arrays.now c.args.home c.loop-array.array-index c.loop-array.room c.args.len
    (omega arith) (sym c.from.ensures ∙ c.if-from-home.true) (omega arith) c.loop-array.invariant
