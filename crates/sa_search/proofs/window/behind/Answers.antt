use Rattle.std.proofs.Common.{arith}
use Rattle.sa_search.proofs.CutLemmas.{points-within}
use Rattle.sa_search.proofs.window.behind.Goals as goal

pub returns-then-k-bytes-clause-points : goal.returns-then-k-bytes-clause-points
returns-then-k-bytes-clause-points c = let most = points-within c.args.bytes.now c.requires.utf8 in omega arith
