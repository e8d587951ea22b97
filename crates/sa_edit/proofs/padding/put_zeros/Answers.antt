use Rattle.std.proofs.Common.{ℕ, List, ◌≡◌, ◌*◌, ◌++◌, ◌∷◌, [], replicate, length, ap, ap₂, subst, ◌∙◌, arith, append_assoc}
use Rattle.std.specs.List.{concat}
use Rattle.std.specs.Str.{chars}
use Rattle.std.proofs.lemmas.Result.{err_from_is_err_and}
use Rattle.std.proofs.lemmas.Str.{encodes-chars, encode_ascii, chars-IsAscii}
use Rattle.std.proofs.lemmas.Str.Ascii.{IsAscii-nil, IsAscii-cons}
use Rattle.sa_text.specs.Making.{made, GivesText}
use Rattle.sa_text.proofs.PointLemmas.{text_size-append}
use Rattle.sa_edit.proofs.FillLemmas.{text_size-replicate, concat-single}
use Rattle.sa_edit.proofs.padding.put_zeros.Goals as goal

pub returns-in_err-text : goal.returns-in_err-text
returns-in_err-text c =
    let p = err_from_is_err_and c.from_residual.result c.from_residual.ensures.1 in
    let first = chars c.args.first.now in
    let rest = chars c.args.rest.now in
    let zeros : List ℕ = replicate {A = ℕ} c.args.pad 48 in
    let one = ap length (encodes-chars c.args.first.now c.requires.first) in
    let two = ap length (encodes-chars c.args.rest.now c.requires.rest) in
    let all = text_size-append first (zeros ++ rest) in
    let behind = text_size-append zeros rest in
    let size = text_size-replicate c.args.pad 48 in
    let zero = ap (λ bytes. c.args.pad * length bytes) (encode_ascii 48 (omega arith)) in
    rw (p.1, p.2) (c.in_err-text.ensures.refused (first ++ (zeros ++ rest)) (omega (arith, c.saturating_add-size.ensures)))

pub returns : goal.returns
returns c =
    let first = chars c.args.first.now in
    let rest = chars c.args.rest.now in
    let zeros : List ℕ = replicate {A = ℕ} c.args.pad 48 in
    let none = ap (λ d. d.text) c.in_ok-text.ensures.begun.0 in
    let one : chars (48 ∷ []) ≡ 48 ∷ [] = chars-IsAscii (48 ∷ []) (IsAscii-cons 48 [] (omega arith) IsAscii-nil) in
    let e : c.push-2.new.self.text ≡ first ++ (zeros ++ rest) =
    c.push-2.ensures.text
    ∙ ap (λ t. t ++ rest) (c.repeat.ensures.text ∙ ap₂ ◌++◌ (c.push.ensures.text ∙ ap (λ t. t ++ first) none) (ap (λ t. concat (replicate c.args.pad t)) one ∙ concat-single c.args.pad 48))
    ∙ append_assoc first zeros rest in
    subst (λ t. GivesText c.finish.result (made t)) e c.finish.ensures
