use Rattle.std.proofs.Common.{◌≡◌, ◌++◌, List, ap, sym, ◌∙◌, Some, None, []}
use Rattle.sa_script.specs.declared.statement.Term.{Term}
use Rattle.sa_lines.specs.Tokens.{tokens_of}
use Rattle.sa_call.specs.Forms.{entry}
use Rattle.sa_script.specs.Statements.{behind_terms, left_out, terms_of}
use Rattle.sa_script.proofs.ReadingLemmas.{operands-read, others-over, others-given}
use Rattle.sa_script.proofs.reading.operands_of.Goals as goal

pub returns-then-is_over : goal.returns-then-is_over
returns-then-is_over c =
    let o = c.args.op in
    let rest = tokens_of c.in-Some.rest.now in
    let e : Some (c.terms_of.new.terms, rest) ≡ behind_terms [] (terms_of (entry o).needs (tokens_of c.args.line.now)) = rw (c.in-Some.is, c.new-terms.ensures, c.form-form.ensures.needs) at c.in_ok-rest.ensures in
    let more : c.push_numbers.new.terms ≡ c.terms_of.new.terms ++ left_out (entry o).defaults = c.in_ok-push_numbers.ensures ∙ ap (λ ns. c.terms_of.new.terms ++ left_out ns) c.form-form.ensures.defaults in
    ap (λ (ts : List Term). Some (ts, rest)) more ∙ sym (operands-read o (tokens_of c.args.line.now) rest c.terms_of.new.terms e ∙ others-over (entry o).may (entry o).defaults rest c.terms_of.new.terms (sym c.is_over.ensures ∙ c.if-is_over.true))

pub returns : goal.returns
returns c =
    let o = c.args.op in
    let rest = tokens_of c.in-Some.rest.now in
    let e : Some (c.terms_of.new.terms, rest) ≡ behind_terms [] (terms_of (entry o).needs (tokens_of c.args.line.now)) = rw (c.in-Some.is, c.new-terms.ensures, c.form-form.ensures.needs) at c.in_ok-rest.ensures in
    let more : None ≡ behind_terms c.terms_of.new.terms (terms_of (entry o).may rest) = rw (c.in-None.is, c.form-form.ensures.may) at c.in_ok-rest-2.ensures in
    more ∙ sym (operands-read o (tokens_of c.args.line.now) rest c.terms_of.new.terms e ∙ others-given (entry o).may (entry o).defaults rest c.terms_of.new.terms (sym c.is_over.ensures ∙ c.if-is_over.false))
