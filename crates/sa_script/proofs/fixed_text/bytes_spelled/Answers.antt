use Rattle.std.proofs.Common.{sym, ap, ◌∙◌}
use Rattle.sa_script.specs.FixedTexts.{bytes_spelled}
use Rattle.sa_script.proofs.FixedTextLemmas.{kept_behind, kept-behind, kept-none, kept-few, bytes-more}
use Rattle.sa_script.proofs.fixed_text.bytes_spelled.Goals as goal

pub digits-preserved : goal.digits-preserved
digits-preserved c =
    let read = bytes-more c.digits.rest.now c.in-Some.behind.now c.in-Some-first.others.now c.in-Some.high c.in-Some-first.low c.in-Some-byte_of.byte c.in-Some.ensures.cut c.in-Some-first.ensures.cut (sym c.byte_of.ensures ∙ c.in-Some-byte_of.is) in
    record {
      few = kept-few c.keep.new.cells c.digits.bytes c.in-Some-byte_of.byte c.in_ok-keep.ensures;
      same = ap (λ cells. kept_behind cells (bytes_spelled c.in-Some-first.others.now)) c.in_ok-keep.ensures
          ∙ kept-behind c.digits.bytes c.in-Some-byte_of.byte (bytes_spelled c.in-Some-first.others.now)
          ∙ ap (kept_behind c.digits.bytes) (sym read) ∙ c.digits.invariant.same;
    }

pub returns : goal.returns
returns c = sym (ap (λ l. kept_behind c.digits.bytes (bytes_spelled l)) c.in_default.ensures.cut ∙ kept-none c.digits.bytes c.digits.invariant.few) ∙ c.digits.invariant.same
