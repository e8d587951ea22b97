use Rattle.std.proofs.Common.{◌≡◌, ◌-◌, ◌*◌, IsUtf8, ◌++◌, ◌∷◌, [], replicate, length, ap, ap₂, subst, ◌∙◌, arith, append_assoc}
use Rattle.std.specs.List.{concat}
use Rattle.std.specs.Prelude.{encode_utf8}
use Rattle.std.specs.Str.{chars}
use Rattle.std.proofs.lemmas.Result.{err_from_is_err_and}
use Rattle.sa_text.specs.Making.{made, GivesText}
use Rattle.sa_edit.specs.Justifies.{padded}
use Rattle.sa_edit.proofs.FillLemmas.{text_size-padded, concat-single, chars-encode}
use Rattle.sa_edit.proofs.padding.pad_text.Goals as goal

pub returns-in_err-text : goal.returns-in_err-text
returns-in_err-text c =
    let p = err_from_is_err_and c.from_residual.result c.from_residual.ensures.1 in
    let right = c.args.pad - c.args.left in
    let size = text_size-padded c.args.a.now c.args.fill c.args.left right c.args.pad (omega arith) in
    let product = ap (λ bytes. c.args.pad * length bytes) (c.as_bytes-fill.ensures.value ∙ c.encode_utf8.ensures.value) in
    rw (p.1, p.2) (c.in_err-text.ensures.refused (padded c.args.a.now c.args.fill c.args.left right) (omega (arith, c.saturating_mul.ensures, c.saturating_add-size.ensures)))

pub returns : goal.returns
returns c =
    let fill = c.args.fill in
    let left = c.args.left in
    let right = c.args.pad - left in
    let bytes : c.as_bytes-fill.result.now ≡ encode_utf8 fill = c.as_bytes-fill.ensures.value ∙ c.encode_utf8.ensures.value in
    let one : chars c.as_bytes-fill.result.now ≡ fill ∷ [] = ap chars bytes ∙ chars-encode fill (subst IsUtf8 bytes c.as_bytes-fill.ensures.utf8) in
    let none = ap (λ d. d.text) c.in_ok-text.ensures.begun.0 in
    let e : c.repeat-2.new.self.text ≡ padded c.args.a.now fill left right =
    c.repeat-2.ensures.text
    ∙ ap₂ ◌++◌
    (c.push.ensures.text ∙ ap₂ ◌++◌ (c.repeat.ensures.text ∙ ap₂ ◌++◌ none (ap (λ t. concat (replicate left t)) one ∙ concat-single left fill)) c.as_bytes.ensures.points)
    (ap (λ t. concat (replicate right t)) one ∙ concat-single right fill)
    ∙ append_assoc (replicate left fill) c.args.a.now (replicate right fill) in
    subst (λ t. GivesText c.finish.result (made t)) e c.finish.ensures
