use Rattle.sa_lines.proofs.TokenLemmas.{leads-plain}
use Rattle.sa_lines.proofs.token.cut_kept.Goals as goal

pub returns-in-Quoted-clause-kept : goal.returns-in-Quoted-clause-kept
returns-in-Quoted-clause-kept c = rw c.in-Quoted.is (leads-plain c.cut_run.result.0.now c.cut_run.ensures.plain)
