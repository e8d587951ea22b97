-- The front of a longer front is the front.
use Rattle.std.proofs.Common.{ap, take, ◌∙◌}
use Rattle.std.proofs.lemmas.List.{take-take}
use Rattle.sa_bytes.proofs.shared_bytes.front.Goals as goal

pub returns-then-bytes-ge-INSIDE_MOST : goal.returns-then-bytes-ge-INSIDE_MOST
returns-then-bytes-ge-INSIDE_MOST c = ap (take c.args.size) c.copy_from_slice.ensures.after ∙ take-take c.args.size _ c.args.bytes.now c.requires.fits
