use Rattle.std.proofs.Common.{◌≡◌, ◌≤◌, ◌+◌, length}
use Rattle.sa_lines.specs.Lines.{lines_of}
use Rattle.sa_script.specs.Contexts.{nothing}
use Rattle.sa_script.specs.Scripts.{lines_after}
use Rattle.sa_script.specs.SoundContexts.{IsSoundContext}
use Rattle.sa_script.proofs.parsing.parse.Given as goal

abbrev pub invariant-lines : goal.invariant-lines
invariant-lines l = record {
  read : lines_after l.context l.number (lines_of l.rest) ≡ lines_after nothing 0 (lines_of l.bytes);
  sound : IsSoundContext l.context;
  counted : l.number + length l.rest ≤ length l.bytes;
}

abbrev pub decreases-lines : goal.decreases-lines
decreases-lines l = length l.rest
