use Rattle.std.proofs.Common.{◌∷◌, List, ℕ, take, drop, sym, ap, ◌∙◌, take-append-drop}
use Rattle.sa_lines.proofs.QuoteLemmas.{quoted_at-cut}
use Rattle.sa_lines.proofs.quote.plain_at.Goals as goal

pub returns-in-Some-eq34-default-first-clause-reads : goal.returns-in-Some-eq34-default-first-clause-reads
returns-in-Some-eq34-default-first-clause-reads c =
    let text : List ℕ = c.in-Some-eq34-default.text.now in
    let size : ℕ = c.plain_len-size.result in
    let rest : List ℕ = c.in-Some-eq34-default-first.rest.now in
    let begun = c.in-Some-eq34-default.ensures.cut ∙ ap (λ (b : ℕ). b ∷ text) c.in-Some-eq34-default.field-0-0-test in
    let closed = sym c.split_at.ensures.back ∙ (c.in-Some-eq34-default-first.ensures.cut ∙ ap (λ (b : ℕ). b ∷ rest) c.in-Some-eq34-default-first.field-0-0-test) in
    quoted_at-cut c.args.bytes.now text (take size text) (drop size text) rest begun (sym (take-append-drop size text)) closed c.plain_len-size.ensures.front
