use Rattle.std.proofs.Common.{◌≡◌, ◌≤◌, ◌+◌, ◌^◌, length, min, option_map}
use Rattle.sa_lines.specs.Numbers.{digits_of}
use Rattle.sa_lines.proofs.NumberLemmas.{digits_after}
use Rattle.sa_lines.proofs.number.digits_of.Given as goal

abbrev pub invariant-digits : goal.invariant-digits
invariant-digits l = record {
  same : option_map (min (2 ^ 63 + 1)) (digits_of l.bytes) ≡ option_map (min (2 ^ 63 + 1)) (digits_after l.value l.rest);
  capped : l.value ≤ 2 ^ 63 + 1;
}

abbrev pub decreases-digits : goal.decreases-digits
decreases-digits l = length l.rest
