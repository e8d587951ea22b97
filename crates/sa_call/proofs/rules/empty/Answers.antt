use Rattle.std.proofs.Common.{◌≡◌, List, ℕ, IfOk, subst}
use Rattle.std.proofs.lemmas.Str.{chars-nil}
use Rattle.sa_call.proofs.rules.empty.Goals as goal

pub returns : goal.returns
returns c = subst (λ (empty : List ℕ). IfOk c.from_utf8.result (λ text. text ≡ empty)) chars-nil c.from_utf8.ensures
