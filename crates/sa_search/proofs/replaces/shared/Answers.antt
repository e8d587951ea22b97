use Rattle.std.proofs.Common.{Ok, refl, sym, ap, ◌∙◌, arith}
use Rattle.sa_text.proofs.MakingLemmas.{made-within}
use Rattle.sa_search.proofs.replaces.shared.Goals as goal

pub returns-in-Ok : goal.returns-in-Ok
returns-in-Ok c = made-within c.args.a.now (omega arith) ∙ ap Ok (sym c.in-Ok.ensures)

pub returns-in-Err : goal.returns-in-Err
returns-in-Err c = rw (made-within c.args.a.now (omega arith)) refl
