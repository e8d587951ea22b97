use Rattle.sa_hall.proofs.UseLemmas.{quiet-of}
use Rattle.sa_hall.proofs.tests.runs.found.Goals as goal

pub compare-requires-clause-of : goal.compare-requires-clause-of
compare-requires-clause-of g c κs =
    let bound = c.in_ok-ended.ensures.bound in
    quiet-of g.B.Binding.roll g.B.Binding.ties g.B.Binding.shapes c.in_ok-ended.ended c.end-quiet.result c.end-quiet.ensures bound.0 bound.1 bound.2 c.args.hall.most
