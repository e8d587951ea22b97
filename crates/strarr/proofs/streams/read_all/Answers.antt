use Rattle.strarr.proofs.StreamLemmas.{stops-more}
use Rattle.strarr.proofs.streams.read_all.Goals as goal

pub returns-in-Err : goal.returns-in-Err
returns-in-Err g c = stops-more _ _ _ c.pieces.text.items c.in-Err.status c.pieces.invariant.taken c.in-Err.ensures
