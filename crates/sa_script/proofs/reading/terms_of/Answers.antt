use Rattle.std.proofs.Common.{◌≡◌, sym, ap, ◌∙◌, Some, append-nil, List, [], ◌+◌, drop}
use Rattle.std.proofs.lemmas.List.{at_drop_all}
use Rattle.sa_call.specs.declared.form.Sort.{Sort}
use Rattle.sa_script.specs.declared.statement.Term.{Term}
use Rattle.sa_call.specs.declared.form.Sort.TheVariants as sort
use Rattle.sa_lines.specs.Tokens.{tokens_of}
use Rattle.sa_script.specs.Statements.{behind_terms, terms_of}
use Rattle.sa_script.proofs.ReadingLemmas.{terms-untold, terms-misspelled, terms-more}
use Rattle.sa_script.proofs.reading.terms_of.Goals as goal

pub returns-in_default : goal.returns-in_default
returns-in_default c =
    sym (ap (behind_terms c.sorts.terms) (terms-untold c.args.needs.now c.sorts.sort-index (tokens_of c.sorts.rest.now) sort.View c.sorts-test.true c.in_default.ensures.cut)) ∙ c.sorts.invariant

pub returns-in_default-2 : goal.returns-in_default-2
returns-in_default-2 c =
    let read = sym c.in_ok-term.ensures ∙ c.in_default-2.is in
    sym (ap (behind_terms c.sorts.terms) (terms-misspelled c.args.needs.now c.sorts.sort-index (tokens_of c.sorts.rest.now) (tokens_of c.in-Some.others.now) c.in-Some.token.now _ c.sorts-test.true c.in-Some.ensures.cut read))
    ∙ c.sorts.invariant

pub sorts-preserved : goal.sorts-preserved
sorts-preserved c =
    let read = sym c.in_ok-term.ensures ∙ c.in-Some-2.is in
    ap (λ terms. behind_terms terms (terms_of (drop (c.sorts.sort-index + 1) c.args.needs.now) (tokens_of c.in-Some.others.now))) c.in_ok-push.ensures.ok
    ∙ terms-more c.args.needs.now c.sorts.sort-index (tokens_of c.sorts.rest.now) (tokens_of c.in-Some.others.now) c.in-Some.token.now _ c.sorts.terms c.in-Some-2.term c.sorts-test.true c.in-Some.ensures.cut read
    ∙ c.sorts.invariant

pub returns : goal.returns
returns c =
    let last : terms_of (drop c.sorts.sort-index c.args.needs.now) (tokens_of c.sorts.rest.now) ≡ Some ([], tokens_of c.sorts.rest.now) = at_drop_all (λ (l : List Sort). terms_of l (tokens_of c.sorts.rest.now)) c.args.needs.now c.sorts.sort-index c.sorts-test.false in
    ap (λ (terms : List Term). Some (terms, tokens_of c.sorts.rest.now)) (sym (append-nil c.sorts.terms))
    ∙ sym (ap (behind_terms c.sorts.terms) last) ∙ c.sorts.invariant
