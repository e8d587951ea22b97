use Rattle.std.proofs.Common.{length, arith}
use Rattle.sa_script.proofs.FixedTextLemmas.{some-room}
use Rattle.sa_script.proofs.fixed_text.unit_of.Goals as goal

pub number_behind-requires-clause-small : goal.number_behind-requires-clause-small
number_behind-requires-clause-small c = some-room (length c.args.digits.now) (omega arith)
