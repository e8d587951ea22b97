use Rattle.std.proofs.Common.{◌≤◌, ◌<◌, vec_len}
use Rattle.sa_base.specs.Streams.{StreamTakes}
use Rattle.strarr.proofs.streams.read_all.Given as goal

abbrev pub invariant-pieces : goal.invariant-pieces
invariant-pieces g l = record {
  taken : StreamTakes (g.S.Source.stream l.fn.source) (g.S.Source.stream l.source) l.text.items;
  some : l.counter ≤ vec_len l.text;
  within : vec_len l.text < 4194305;
  piece : 0 < vec_len l.piece;
}
