use Rattle.std.proofs.Common.{◌≡◌, ◌≤◌, length}
use Rattle.sa_lines.specs.Lines.{is_skipped}
use Rattle.sa_lines.specs.Tokens.{tokens_of}
use Rattle.sa_lines.proofs.line.skip_blanks.Given as goal

abbrev pub invariant-loop-byte : goal.invariant-loop-byte
invariant-loop-byte l = record {
  skips : is_skipped l.line ≡ is_skipped l.rest;
  tokens : tokens_of l.line ≡ tokens_of l.rest;
  within : length l.rest ≤ length l.line;
}

abbrev pub decreases-loop-byte : goal.decreases-loop-byte
decreases-loop-byte l = length l.rest
