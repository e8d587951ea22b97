use Rattle.std.proofs.Common.{sym, arith}
use Rattle.std.specs.Str.{chars}
use Rattle.std.proofs.lemmas.List.{take_all}
use Rattle.sa_search.proofs.CutLemmas.{points-within}
use Rattle.sa_search.proofs.window.front.Goals as goal

pub returns-then-k-bytes-clause-points : goal.returns-then-k-bytes-clause-points
returns-then-k-bytes-clause-points c =
    let most = points-within c.args.bytes.now c.requires.utf8 in
    sym (take_all c.args.k (chars c.args.bytes.now) (omega arith))
