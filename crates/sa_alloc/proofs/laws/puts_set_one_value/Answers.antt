use Rattle.sa_alloc.proofs.LayoutLemmas.{values-put}
use Rattle.sa_alloc.proofs.laws.puts_set_one_value.Goals as goal

pub returns : goal.returns
returns c = values-put
