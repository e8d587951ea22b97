use Rattle.std.proofs.Common.{◌≤◌, length, take}
use Rattle.sa_base.specs.Streams.{StreamGains}
use Rattle.strarr.proofs.streams.write_all.Given as goal

abbrev pub invariant-pieces : goal.invariant-pieces
invariant-pieces g l = record {
  written : StreamGains (g.K.Sink.stream l.fn.sink) (g.K.Sink.stream l.sink) (take l.done l.bytes);
  some : l.counter ≤ l.done;
  within : l.done ≤ length l.bytes;
}
