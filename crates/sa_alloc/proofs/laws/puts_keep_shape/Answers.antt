use Rattle.sa_alloc.proofs.LayoutLemmas.{put-lengths, put-entries}
use Rattle.sa_alloc.proofs.laws.puts_keep_shape.Goals as goal

pub returns : goal.returns
returns c = record { lengths = put-lengths; entries = put-entries }
