use Rattle.sa_loop.proofs.WorldLemmas.{layouts-show}
use Rattle.sa_loop.proofs.laws.layouts_show_items.Goals as goal

pub returns : goal.returns
returns c = layouts-show
