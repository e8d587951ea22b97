use Rattle.std.proofs.Common.{◌≡◌, ◌≤◌, ◌-◌, IsUtf8, length, drop}
use Rattle.std.specs.Str.{chars}
use Rattle.std.specs.Option.{option_copied}
use Rattle.sa_edit.specs.Strips.{is_in, without_front}
use Rattle.sa_edit.proofs.strips.without_front.Given as goal

abbrev pub invariant-loop-point : goal.invariant-loop-point
invariant-loop-point l = record {
  utf8 : IsUtf8 l.rest;
  most : length l.rest ≤ length l.bytes;
  place : l.rest ≡ drop (length l.bytes - length l.rest) l.bytes;
  points : without_front (is_in (option_copied l.set)) (chars l.rest) ≡ without_front (is_in (option_copied l.set)) (chars l.bytes);
}

abbrev pub decreases-loop-point : goal.decreases-loop-point
decreases-loop-point l = length l.rest
