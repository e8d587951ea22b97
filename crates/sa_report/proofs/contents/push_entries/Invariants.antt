use Rattle.std.proofs.Common.{◌≡◌, ◌++◌, take, [], ◌∷◌}
use Rattle.std.specs.List.{join_by, slice_index_or}
use Rattle.sa_loop.specs.Runs.{strings_in}
use Rattle.sa_plain.specs.Written.{value_bytes}
use Rattle.sa_report.proofs.contents.push_entries.Given as goal

abbrev pub invariant-loop-place : goal.invariant-loop-place
invariant-loop-place l = l.out.items ≡ l.fn.out.items ++ join_by value_bytes (44 ∷ []) (take l.place (slice_index_or (strings_in l.store.contents.layout) l.index []))
