use Rattle.std.proofs.Common.{◌≡◌, ◌+◌, ◌*◌, ◌++◌, length, take, replicate}
use Rattle.std.specs.List.{concat}
use Rattle.sa_text.specs.declared.place.TheConstants.{INSIDE_MOST}
use Rattle.sa_text.proofs.place.Few.repeat.Given as goal

abbrev pub invariant-loop-turn : goal.invariant-loop-turn
invariant-loop-turn l = record {
  filled : l.self.filled ≡ l.fn.self.filled + l._turn * length l.part;
  whole : length l.self.bytes ≡ INSIDE_MOST;
  bytes : take l.self.filled l.self.bytes ≡ take l.fn.self.filled l.fn.self.bytes ++ concat (replicate l._turn l.part);
}
