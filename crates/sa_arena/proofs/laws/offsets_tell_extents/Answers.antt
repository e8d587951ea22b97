use Rattle.sa_arena.proofs.ExtentLemmas.{number_at-offset, offset-number_at}
use Rattle.sa_arena.proofs.laws.offsets_tell_extents.Goals as goal

pub returns-clause-numbers : goal.returns-clause-numbers
returns-clause-numbers c = number_at-offset

pub returns-clause-offsets : goal.returns-clause-offsets
returns-clause-offsets c = offset-number_at
