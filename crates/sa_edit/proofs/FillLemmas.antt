-- Sizes of texts that are repeated and filled, and what they are.
use Rattle.std.proofs.Common.{◌≡◌, ◌+◌, ◌*◌, ℕ, zero, suc, List, [], ◌∷◌, ◌++◌, length, replicate, refl, sym, ap, ◌∙◌, arith, IsUtf8, append-nil}
use Rattle.std.specs.List.{concat}
use Rattle.std.specs.Prelude.{encode_utf8}
use Rattle.std.specs.Str.{chars}
use Rattle.std.proofs.lemmas.Str.{chars-nil, chars_past_char}
use Rattle.sa_text.specs.Texts.{text_size}
use Rattle.sa_text.proofs.PointLemmas.{text_size-append, text_size-cons}
use Rattle.sa_edit.specs.Justifies.{padded}

pub text_size-repeat : (n : ℕ) (a : List ℕ) → text_size (concat (replicate n a)) ≡ n * text_size a
text_size-repeat zero a = let e : 0 ≡ 0 * text_size a = omega arith in e
text_size-repeat (suc n) a = let e = text_size-repeat n a in omega (arith, text_size-append a (concat (replicate n a)))

pub text_size-replicate : (n c : ℕ) → text_size (replicate n c) ≡ n * length (encode_utf8 c)
text_size-replicate zero c = let e : 0 ≡ 0 * length (encode_utf8 c) = omega arith in e
text_size-replicate (suc n) c = let e = text_size-replicate n c in omega (arith, text_size-cons c (replicate n c))

pub concat-single : (n c : ℕ) → concat (replicate n (c ∷ [])) ≡ replicate n c
concat-single zero c = refl
concat-single (suc n) c = ap (λ t. c ∷ t) (concat-single n c)

pub chars-encode : (c : ℕ) → IsUtf8 (encode_utf8 c) → chars (encode_utf8 c) ≡ c ∷ []
chars-encode c u = chars_past_char (encode_utf8 c) [] c u (sym (append-nil (encode_utf8 c))) ∙ ap (λ t. c ∷ t) chars-nil

pub text_size-padded : (a : List ℕ) (fill left right pad : ℕ) → left + right ≡ pad → text_size (padded a fill left right) ≡ pad * length (encode_utf8 fill) + text_size a
text_size-padded a fill left right pad e =
    let all = text_size-append (replicate left fill) (a ++ replicate right fill) in
    let rest = text_size-append a (replicate right fill) in
    let one = text_size-replicate left fill in
    let two = text_size-replicate right fill in
    let both : (left + right) * length (encode_utf8 fill) ≡ pad * length (encode_utf8 fill) = ap (λ n. n * length (encode_utf8 fill)) e in
    omega arith
