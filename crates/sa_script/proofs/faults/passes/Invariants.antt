use Rattle.std.proofs.Common.{◌≡◌, ◌+◌, take}
use Rattle.sa_call.specs.Decls.{entries_of}
use Rattle.sa_script.proofs.faults.passes.Given as goal

abbrev pub invariant-loop-array : goal.invariant-loop-array
invariant-loop-array l = l.room + (entries_of (take l.array-index l.arrays) l.home + l.len) ≡ 8192
