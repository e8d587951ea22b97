use Rattle.std.proofs.Common.{◌≡◌, ◌∙◌, sym, subst, map-id, ap, length}
use Rattle.std.proofs.lemmas.Iterator.Consumers.{YieldsList-end}
use Rattle.std.proofs.lemmas.Iterator.Adapters.{YieldsList-from_vec}
use Rattle.sa_script.specs.Resolving.{AreTaken}
use Rattle.sa_script.proofs.ResolvingLemmas.{taken-more}
use Rattle.sa_script.proofs.context.Context.resolved_terms.Goals as goal

pub terms-preserved : goal.terms-preserved
terms-preserved c =
    taken-more c.args.self.now c.args.op c.terms.yielded c.in-Some.term c.terms.resolved c.take_term.new.resolved c.terms.invariant c.in_ok-take_term.ensures

pub returns : goal.returns
returns c =
    let given = c.into_iter-term-iterator.ensures.into_iter_gives in
    let items : c.into_iter-term-iterator.result.rest.items ≡ c.args.terms = given.0 ∙ c.into_vec-term-items.ensures in
    let count : c.into_iter-term-iterator.result.rest.len ≡ length c.args.terms = given.1 ∙ c.into_vec-term-items.result.ok.0 ∙ ap length c.into_vec-term-items.ensures in
    let all = YieldsList-end (YieldsList-from_vec {s = c.into_iter-term-iterator.result} c.args.terms items count) c.terms.yielded c.terms.term-iterator c.terms.yielded_by c.next.result c.next.new.self c.in-None.is c.next.ensures.steps in
    let same : c.terms.yielded ≡ c.args.terms = sym (map-id c.terms.yielded) ∙ all.0 in
    subst (λ ts. AreTaken c.args.self.now c.args.op ts c.terms.resolved) same c.terms.invariant
