use Rattle.std.proofs.Common.{◌≡◌, ◌≤◌, length, option_map}
use Rattle.sa_script.specs.FixedTexts.{units_in, units_spelled, kept}
use Rattle.sa_script.proofs.FixedTextLemmas.{kept_behind, parts_behind, left_behind}
use Rattle.sa_script.proofs.fixed_text.units_spelled.Given as goal

abbrev pub invariant-parts : goal.invariant-parts
invariant-parts l = record {
  few : length l.units ≤ 257;
  same : kept_behind l.units (units_in (parts_behind (option_map (λ r. r.now) l.rest))) ≡ option_map kept (units_spelled l.bytes);
}

abbrev pub decreases-parts : goal.decreases-parts
decreases-parts l = left_behind (option_map (λ r. r.now) l.rest)
