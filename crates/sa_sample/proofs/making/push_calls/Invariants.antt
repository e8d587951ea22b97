use Rattle.std.proofs.Common.{◌≡◌, ◌++◌, ◌-◌}
use Rattle.std.specs.List.{flat_map}
use Rattle.sa_lines.specs.Lines.{line}
use Rattle.sa_sample.specs.Samples.{after_calls, call_lines}
use Rattle.sa_sample.proofs.making.push_calls.Given as goal

abbrev pub invariant-loop : goal.invariant-loop
invariant-loop l =
    (l.out.items ++ flat_map line (call_lines (64 - l.counter) l.draws.state) ≡ l.fn.out.items ++ flat_map line (call_lines 64 l.fn.draws.state))
    × (after_calls (64 - l.counter) l.draws.state ≡ after_calls 64 l.fn.draws.state)
