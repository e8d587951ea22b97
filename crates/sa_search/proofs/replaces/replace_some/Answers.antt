use Rattle.std.proofs.Common.{◌≡◌, ◌<◌, ◌≤◌, ◌+◌, ◌*◌, ◌++◌, [], ℕ, List, min, ap, ap₂, sym, subst, ◌∙◌, arith}
use Rattle.std.specs.Str.{chars}
use Rattle.std.proofs.lemmas.Result.{err_from_is_err_and}
use Rattle.sa_text.specs.Making.{made, GivesText}
use Rattle.sa_text.specs.Texts.{text_size}
use Rattle.sa_search.specs.Counts.{count_of}
use Rattle.sa_search.specs.Replaces.{replaced}
use Rattle.sa_search.proofs.CutLemmas.{size-chars}
use Rattle.sa_search.proofs.WindowLemmas.{some-part}
use Rattle.sa_search.proofs.ReplaceLemmas.{replaced-same, replaced-size, replaced-zero}
use Rattle.sa_search.proofs.replaces.replace_some.Goals as goal

-- as many are replaced as there are, and what that makes
record IsTimes (old new a : List ℕ) (most times : ℕ) : Type 0 where
  counted : times ≤ count_of old 0 a
  same : replaced old new most 0 a ≡ replaced old new times 0 a
  within : times * text_size old ≤ text_size a
  size : text_size (replaced old new times 0 a) + times * text_size old ≡ text_size a + times * text_size new

is-times : (old new a part text : List ℕ) (most times : ℕ) → 0 < text_size old → part ≡ old → text ≡ a → times ≡ min most (count_of part 0 text) → IsTimes old new a most times
is-times old new a part text most times some e f h =
    let counted : times ≡ min most (count_of old 0 a) = h ∙ ap₂ (λ p t. min most (count_of p 0 t)) e f in
    record {
      counted = omega arith;
      same = replaced-same old new most times 0 a (omega arith);
      within = (let e = replaced-size old [] (some-part old some) times 0 a (omega arith) in omega arith);
      size = replaced-size old new (some-part old some) times 0 a (omega arith);
    }

same-replaced : (part old other new text a : List ℕ) (times : ℕ) → part ≡ old → other ≡ new → text ≡ a → replaced part other times 0 text ≡ replaced old new times 0 a
same-replaced part old other new text a times e f g = ap₂ (λ p n. replaced p n times 0 text) e f ∙ ap (replaced old new times 0) g

pub returns-then-times-eq0 : goal.returns-then-times-eq0
returns-then-times-eq0 c =
    let old = c.args.old.now in
    let new = c.args.new.now in
    let a = c.args.a.now in
    let times = c.count_in-times.result in
    let known = is-times old new a (chars c.new-part.result) (chars c.as_bytes-bytes.result.now) c.args.most times c.requires (ap chars c.new-part.ensures ∙ c.as_bytes.ensures.points) c.as_bytes-bytes.ensures.points c.count_in-times.ensures in
    let none : replaced old new times 0 a ≡ a = ap (λ k. replaced old new k 0 a) c.if-times-eq0.true ∙ replaced-zero old new a in
    subst (λ t. GivesText c.shared.result (made t)) (sym (known.same ∙ none)) c.shared.ensures

pub overflow_mul-kept : goal.overflow_mul-kept
overflow_mul-kept c =
    let old = c.args.old.now in
    let a = c.args.a.now in
    let times = c.count_in-times.result in
    let known = is-times old c.args.new.now a (chars c.new-part.result) (chars c.as_bytes-bytes.result.now) c.args.most times c.requires (ap chars c.new-part.ensures ∙ c.as_bytes.ensures.points) c.as_bytes-bytes.ensures.points c.count_in-times.ensures in
    let within = known.within in
    let product : times * c.size.result ≡ times * text_size old = ap (λ k. times * k) c.size.ensures.size in
    let whole = sym (size-chars c.as_bytes-bytes.result.now c.as_bytes-bytes.ensures.utf8) ∙ ap text_size c.as_bytes-bytes.ensures.points in
    let short = c.as_bytes-bytes.ensures.short in
    omega arith

pub overflow_sub-kept : goal.overflow_sub-kept
overflow_sub-kept c =
    let old = c.args.old.now in
    let a = c.args.a.now in
    let times = c.count_in-times.result in
    let known = is-times old c.args.new.now a (chars c.new-part.result) (chars c.as_bytes-bytes.result.now) c.args.most times c.requires (ap chars c.new-part.ensures ∙ c.as_bytes.ensures.points) c.as_bytes-bytes.ensures.points c.count_in-times.ensures in
    let within = known.within in
    let product : times * c.size.result ≡ times * text_size old = ap (λ k. times * k) c.size.ensures.size in
    let whole = sym (size-chars c.as_bytes-bytes.result.now c.as_bytes-bytes.ensures.utf8) ∙ ap text_size c.as_bytes-bytes.ensures.points in
    omega arith

pub returns-in_err-text : goal.returns-in_err-text
returns-in_err-text c =
    let p = err_from_is_err_and c.from_residual.result c.from_residual.ensures.1 in
    let old = c.args.old.now in
    let new = c.args.new.now in
    let a = c.args.a.now in
    let times = c.count_in-times.result in
    let known = is-times old new a (chars c.new-part.result) (chars c.as_bytes-bytes.result.now) c.args.most times c.requires (ap chars c.new-part.ensures ∙ c.as_bytes.ensures.points) c.as_bytes-bytes.ensures.points c.count_in-times.ensures in
    let same = ap text_size known.same in
    let size = known.size in
    let within = known.within in
    let one : times * c.size.result ≡ times * text_size old = ap (λ k. times * k) c.size.ensures.size in
    let two : times * c.size-2.result ≡ times * text_size new = ap (λ k. times * k) c.size-2.ensures.size in
    let whole = sym (size-chars c.as_bytes-bytes.result.now c.as_bytes-bytes.ensures.utf8) ∙ ap text_size c.as_bytes-bytes.ensures.points in
    rw (p.1, p.2) (c.in_err-text.ensures.refused (replaced old new c.args.most 0 a) (omega (arith, c.saturating_mul.ensures, c.saturating_add-size.ensures)))

pub put_replaced-requires-clause-fits : goal.put_replaced-requires-clause-fits
put_replaced-requires-clause-fits c =
    let old = c.args.old.now in
    let new = c.args.new.now in
    let a = c.args.a.now in
    let times = c.count_in-times.result in
    let part : chars c.new-part.result ≡ old = ap chars c.new-part.ensures ∙ c.as_bytes.ensures.points in
    let known = is-times old new a (chars c.new-part.result) (chars c.as_bytes-bytes.result.now) c.args.most times c.requires part c.as_bytes-bytes.ensures.points c.count_in-times.ensures in
    let size = known.size in
    let within = known.within in
    let one : times * c.size.result ≡ times * text_size old = ap (λ k. times * k) c.size.ensures.size in
    let two : times * c.size-2.result ≡ times * text_size new = ap (λ k. times * k) c.size-2.ensures.size in
    let whole = sym (size-chars c.as_bytes-bytes.result.now c.as_bytes-bytes.ensures.utf8) ∙ ap text_size c.as_bytes-bytes.ensures.points in
    let texts = ap text_size (same-replaced (chars c.new-part.result) old (chars c.as_bytes-2.result.now) new (chars c.as_bytes-bytes.result.now) a times part c.as_bytes-2.ensures.points c.as_bytes-bytes.ensures.points) in
    let room = ap (λ d. d.room) c.in_ok-text.ensures.begun.0 in
    let short = c.in_ok-text.ensures.begun.1 in
    omega (arith, c.saturating_mul.ensures, c.saturating_add-size.ensures)

pub returns : goal.returns
returns c =
    let old = c.args.old.now in
    let new = c.args.new.now in
    let a = c.args.a.now in
    let times = c.count_in-times.result in
    let part : chars c.new-part.result ≡ old = ap chars c.new-part.ensures ∙ c.as_bytes.ensures.points in
    let known = is-times old new a (chars c.new-part.result) (chars c.as_bytes-bytes.result.now) c.args.most times c.requires part c.as_bytes-bytes.ensures.points c.count_in-times.ensures in
    let none = ap (λ d. d.text) c.in_ok-text.ensures.begun.0 in
    let texts = same-replaced (chars c.new-part.result) old (chars c.as_bytes-2.result.now) new (chars c.as_bytes-bytes.result.now) a times part c.as_bytes-2.ensures.points c.as_bytes-bytes.ensures.points in
    let e : c.put_replaced.new.text.text ≡ replaced old new c.args.most 0 a = c.put_replaced.ensures ∙ ap₂ ◌++◌ none texts ∙ sym known.same in
    subst (λ t. GivesText c.finish.result (made t)) e c.finish.ensures
