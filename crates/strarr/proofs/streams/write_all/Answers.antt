use Rattle.std.proofs.Common.{arith, length-drop}
use Rattle.strarr.proofs.StreamLemmas.{gains-more, left-whole}
use Rattle.strarr.proofs.streams.write_all.Goals as goal

pub pieces-preserved : goal.pieces-preserved
pieces-preserved g c =
    let left = left-whole c.args.bytes.now c.pieces.done in
    let piece = rw left at c.in-Bytes.ensures.writes in
    record {
      written = gains-more _ _ _ c.args.bytes.now c.pieces.done c.in-Bytes.count c.pieces.invariant.written piece.1;
      some = omega (arith, piece.0.some);
      within = omega (arith, piece.0.room, c.pieces.invariant.within, length-drop c.pieces.done c.args.bytes.now);
    }
