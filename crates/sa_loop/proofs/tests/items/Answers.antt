use Rattle.std.proofs.Common.{List, [], ◌∷◌, ◌++◌, sym, subst}
use Rattle.std.specs.List.{AllByRecursion}
use Rattle.sa_text.specs.Values.{IsTextValue}
use Rattle.sa_text.specs.declared.value.Value.{Value}
use Rattle.sa_loop.proofs.tests.items.Goals as goal

all-push : (vs : List Value) (v : Value) → AllByRecursion IsTextValue vs → IsTextValue v → AllByRecursion IsTextValue (vs ++ v ∷ [])
all-push [] v all is = (is, tt)
all-push (w ∷ ws) v all is = (all.0, all-push ws v all.1 is)

pub loop-text-preserved : goal.loop-text-preserved
loop-text-preserved c = record { texts = subst (AllByRecursion IsTextValue) (sym c.in_ok-push.ensures.ok) (all-push c.loop-text.values c.in_ok-value.field-0 c.loop-text.invariant.texts c.in_ok-value.ensures) }
