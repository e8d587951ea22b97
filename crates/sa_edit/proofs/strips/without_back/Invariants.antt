use Rattle.std.proofs.Common.{◌≡◌, ◌≤◌, IsUtf8, length, take}
use Rattle.std.specs.Str.{chars}
use Rattle.std.specs.Option.{option_copied}
use Rattle.sa_edit.specs.Strips.{is_in, without_back}
use Rattle.sa_edit.proofs.strips.without_back.Given as goal

abbrev pub invariant-loop-point : goal.invariant-loop-point
invariant-loop-point l = record {
  utf8 : IsUtf8 l.rest;
  most : length l.rest ≤ length l.bytes;
  place : l.rest ≡ take (length l.rest) l.bytes;
  points : without_back (is_in (option_copied l.set)) (chars l.rest) ≡ without_back (is_in (option_copied l.set)) (chars l.bytes);
}

abbrev pub decreases-loop-point : goal.decreases-loop-point
decreases-loop-point l = length l.rest
