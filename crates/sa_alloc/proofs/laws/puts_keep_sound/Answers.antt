use Rattle.sa_alloc.proofs.LayoutLemmas.{opening-sound, put-sound}
use Rattle.sa_alloc.proofs.laws.puts_keep_sound.Goals as goal

pub returns : goal.returns
returns c = record { opening = opening-sound; put = put-sound }
