use Rattle.std.proofs.Common.{sym, subst}
use Rattle.sa_alloc.specs.Stores.{AreDistinct}
use Rattle.sa_hall.proofs.RunLemmas.{distinct-three}
use Rattle.sa_hall.proofs.tests.runs.three_texts.Goals as goal

pub put_texts-requires-clause-distinct : goal.put_texts-requires-clause-distinct
put_texts-requires-clause-distinct g c = subst AreDistinct (sym c.in_ok-places.ensures) distinct-three
