-- A text's bytes are those of its code points, since the bytes are UTF-8.
use Rattle.std.proofs.Common.{◌≡◌, IsUtf8, encode_utf8_all, length, take, drop, sym, ap, subst, ◌∙◌, arith}
use Rattle.std.specs.Str.{chars}
use Rattle.std.proofs.lemmas.List.{length-take-le, length-drop}
use Rattle.std.proofs.lemmas.Str.{encodes-chars}
use Rattle.sa_text.proofs.text.Text.part.Goals as goal

pub part-requires : goal.part-requires
part-requires c =
    let same : c.self.inside.bytes ≡ encode_utf8_all c.args.self.now = sym (encodes-chars c.self.inside.bytes c.self.invariant.0) ∙ ap encode_utf8_all c.self.view_is in
    let size = ap length same in
    omega arith

pub invariant_of-result : goal.invariant_of-result
invariant_of-result c =
    let start = c.args.start in
    let size = c.args.size in
    let same : c.self.inside.bytes ≡ encode_utf8_all c.args.self.now = sym (encodes-chars c.self.inside.bytes c.self.invariant.0) ∙ ap encode_utf8_all c.self.view_is in
    let part : c.in_ok-bytes.bytes ≡ take size (drop start (encode_utf8_all c.args.self.now)) = c.in_ok-bytes.ensures ∙ ap (λ b. take size (drop start b)) same in
    let most = ap length part in
    let long = length-take-le size (drop start (encode_utf8_all c.args.self.now)) in
    let rest = length-drop start (encode_utf8_all c.args.self.now) in
    let whole = ap length same in
    (subst IsUtf8 (sym part) c.requires.utf8, omega (arith, c.self.invariant.1))

pub returns : goal.returns
returns c =
    let start = c.args.start in
    let size = c.args.size in
    let same : c.self.inside.bytes ≡ encode_utf8_all c.args.self.now = sym (encodes-chars c.self.inside.bytes c.self.invariant.0) ∙ ap encode_utf8_all c.self.view_is in
    ap chars (c.in_ok-bytes.ensures ∙ ap (λ b. take size (drop start b)) same)
