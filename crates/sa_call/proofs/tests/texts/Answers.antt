use Rattle.std.proofs.Common.{◌≡◌, ℕ, zero, suc, [], ◌∷◌, replicate, subst, sym, ap, ◌∙◌}
use Rattle.std.specs.List.{AllByRecursion}
use Rattle.sa_text.specs.Values.{IsTextValue, stretched}
use Rattle.sa_text.specs.declared.value.Value.{Value}
use Rattle.sa_text.specs.declared.value.Value.TheVariants.{Of}
use Rattle.sa_text.proofs.TextLemmas.{text_of-text}
use Rattle.sa_call.proofs.tests.texts.Goals as goal

all-replicate : (n : ℕ) (v : Value) → IsTextValue v → AllByRecursion IsTextValue (replicate n v)
all-replicate zero v text = tt
all-replicate (suc n) v text = (text, all-replicate n v text)

pub returns-clause-texts : goal.returns-clause-texts
returns-clause-texts c =
    let text = text_of-text c.as_slice.result.now c.in_ok-text.text c.in_ok-text.ensures in
    let one : c.from_vec-one.result ≡ Of c.in_ok-text.text ∷ [] = c.from_vec-one.ensures ∙ c.in_ok-vec-2.ensures.items in
    let all : c.in_ok-stretched.field-0 ≡ replicate c.args.count (Of c.in_ok-text.text) = c.in_ok-stretched.ensures ∙ ap (stretched c.args.count) one in
    subst (AllByRecursion IsTextValue) (sym all) (all-replicate c.args.count (Of c.in_ok-text.text) text)
