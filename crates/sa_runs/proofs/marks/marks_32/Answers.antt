use Rattle.std.proofs.Common.{arith}
use Rattle.sa_runs.proofs.MarkLemmas.{masked}
use Rattle.sa_runs.proofs.marks.marks_32.Goals as goal

pub returns : goal.returns
returns c = masked c.args.bytes 32 c.requires (omega arith)
