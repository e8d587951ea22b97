use Rattle.sa_view.proofs.PutLemmas.{put-is_read}
use Rattle.sa_view.proofs.laws.put_is_read.Goals as goal

pub returns : goal.returns
returns c = put-is_read
