use Rattle.std.proofs.Common.{◌≡◌, ◌≤◌, length, option_map}
use Rattle.sa_script.specs.FixedTexts.{bytes_spelled, kept}
use Rattle.sa_script.proofs.FixedTextLemmas.{kept_behind}
use Rattle.sa_script.proofs.fixed_text.bytes_spelled.Given as goal

abbrev pub invariant-digits : goal.invariant-digits
invariant-digits l = record {
  few : length l.bytes ≤ 257;
  same : kept_behind l.bytes (bytes_spelled l.rest) ≡ option_map kept (bytes_spelled l.digits);
}

abbrev pub decreases-digits : goal.decreases-digits
decreases-digits l = length l.rest
