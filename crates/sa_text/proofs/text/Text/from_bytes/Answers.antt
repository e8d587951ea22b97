use Rattle.std.proofs.Common.{arith, rules, sym, ap, ◌∙◌, ◌≡◌, List, ℕ, Ok, false, true}
use Rattle.std.specs.Str.{chars}
use Rattle.sa_text.proofs.TextLemmas.{text_of-utf8, text_of-not_utf8}
use Rattle.sa_text.proofs.text.Text.from_bytes.Goals as goal

pub returns-then-not-is_utf8 : goal.returns-then-not-is_utf8
returns-then-not-is_utf8 c = text_of-not_utf8 c.args.bytes.now (omega arith) (λ u. let e : false ≡ true = c.if-not-is_utf8.ensures.1 u in cc)

pub returns-in-Ok : goal.returns-in-Ok
returns-in-Ok c =
    text_of-utf8 c.args.bytes.now (omega arith) (c.if-not-is_utf8.ensures.0 (search rules))
    ∙ sym (ap (λ (bytes : List ℕ). Ok (chars bytes)) c.in-Ok.ensures)

pub returns-in-Err : goal.returns-in-Err
returns-in-Err c =
    let e = text_of-utf8 c.args.bytes.now (omega arith) (c.if-not-is_utf8.ensures.0 (search rules)) in
    rw e (search rules)
