use Rattle.sa_view.proofs.ViewLemmas.{fits-more}
use Rattle.sa_view.proofs.laws.fits_more.Goals as goal

pub returns : goal.returns
returns c = fits-more
