use Rattle.sa_view.proofs.ViewLemmas.{are-places}
use Rattle.sa_view.proofs.laws.places_are_places.Goals as goal

pub returns : goal.returns
returns c = are-places
