use Rattle.std.proofs.Common.{◌≡◌, ◌*◌, ◌++◌, ap, ap₂, sym, subst, ◌∙◌, arith}
use Rattle.std.proofs.lemmas.Result.{err_from_is_err_and}
use Rattle.sa_text.specs.Making.{made, GivesText}
use Rattle.sa_text.specs.Texts.{text_size}
use Rattle.sa_search.specs.Replaces.{spread}
use Rattle.sa_search.proofs.SpreadLemmas.{spread-same, spread-size}
use Rattle.sa_search.proofs.spreads.spread.Goals as goal

pub returns-in_err-text : goal.returns-in_err-text
returns-in_err-text c =
    let p = err_from_is_err_and c.from_residual.result c.from_residual.ensures.1 in
    let a = c.args.a.now in
    let new = c.args.new.now in
    let times = c.min-times.result in
    let points = c.count_points.ensures.points in
    let least = c.min-times.ensures in
    let same = ap text_size (spread-same new c.args.most times a (omega arith)) in
    let size = spread-size new times a (omega arith) in
    let product : times * c.size.result ≡ times * text_size new = ap (λ k. times * k) c.size.ensures.size in
    rw (p.1, p.2) (c.in_err-text.ensures.refused (spread new c.args.most a) (omega (arith, c.saturating_mul.ensures, c.saturating_add-size.ensures, c.size-2.ensures.size)))

pub put_spread-requires-clause-fits : goal.put_spread-requires-clause-fits
put_spread-requires-clause-fits c =
    let a = c.args.a.now in
    let new = c.args.new.now in
    let times = c.min-times.result in
    let points = c.count_points.ensures.points in
    let least = c.min-times.ensures in
    let texts = ap₂ (λ n t. text_size (spread n times t)) c.as_bytes-2.ensures.points c.as_bytes.ensures.points in
    let size = spread-size new times a (omega arith) in
    let product : times * c.size.result ≡ times * text_size new = ap (λ k. times * k) c.size.ensures.size in
    let room = ap (λ d. d.room) c.in_ok-text.ensures.begun.0 in
    let short = c.in_ok-text.ensures.begun.1 in
    omega (arith, c.saturating_mul.ensures, c.saturating_add-size.ensures, c.size-2.ensures.size)

pub returns : goal.returns
returns c =
    let a = c.args.a.now in
    let new = c.args.new.now in
    let times = c.min-times.result in
    let points = c.count_points.ensures.points in
    let least = c.min-times.ensures in
    let none = ap (λ d. d.text) c.in_ok-text.ensures.begun.0 in
    let e : c.put_spread.new.text.text ≡ spread new c.args.most a =
    c.put_spread.ensures ∙ ap₂ ◌++◌ none (ap₂ (λ n t. spread n times t) c.as_bytes-2.ensures.points c.as_bytes.ensures.points)
    ∙ sym (spread-same new c.args.most times a (omega arith)) in
    subst (λ t. GivesText c.finish.result (made t)) e c.finish.ensures
