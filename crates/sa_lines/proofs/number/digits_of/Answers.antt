-- A digit behind a number above a tenth of the cap leads to the cap.
use Rattle.std.proofs.Common.{ℕ, ◌∙◌, sym, ap, arith, length, min, option_map}
use Rattle.std.proofs.lemmas.Bool.{eqb-false}
use Rattle.sa_lines.proofs.NumberLemmas.{digits_after, digits_after-capped, digits_of-after}
use Rattle.sa_lines.proofs.number.digits_of.Goals as goal

pub digits-init : goal.digits-init
digits-init c =
    let cap : ℕ = 9223372036854775809 in
    let some = eqb-false (length c.args.bytes.now) 0 (sym c.if-is_empty.ensures) in
    record {
      same = ap (option_map (min cap)) (digits_of-after c.args.bytes.now (omega arith));
      capped = omega arith;
    }

pub digits-preserved-then-value-gt922337203685477580 : goal.digits-preserved-then-value-gt922337203685477580
digits-preserved-then-value-gt922337203685477580 c =
    let cap : ℕ = 9223372036854775809 in
    let digit = c.if-not-is_ascii_digit.ensures.cases in
    let capped = digits_after-capped cap c.digits.value c.in-Some.byte c.in-Some.others.now digit.0 digit.1 (omega arith) in
    record {
      same = c.digits.invariant.same ∙ (ap (λ bs. option_map (min cap) (digits_after c.digits.value bs)) c.in-Some.ensures.cut ∙ capped);
      capped = omega arith;
    }
