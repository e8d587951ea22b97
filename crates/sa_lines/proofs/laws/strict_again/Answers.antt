use Rattle.sa_lines.proofs.NumberLaws.{strict_is_decimal, decimal_in_front}
use Rattle.sa_lines.proofs.laws.strict_again.Goals as goal

pub returns : goal.returns
returns c = record {
  alone = strict_is_decimal;
  in_front = decimal_in_front;
}
