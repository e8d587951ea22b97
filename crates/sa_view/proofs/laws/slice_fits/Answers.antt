use Rattle.sa_view.proofs.SliceLemmas.{slice-fits}
use Rattle.sa_view.proofs.laws.slice_fits.Goals as goal

pub returns-clause-fits : goal.returns-clause-fits
returns-clause-fits c = slice-fits
