use Rattle.sa_arena.proofs.ExtentLemmas.{cursor-live_and_dead}
use Rattle.sa_arena.proofs.laws.cursor_is_live_and_dead.Goals as goal

pub returns : goal.returns
returns c = cursor-live_and_dead
