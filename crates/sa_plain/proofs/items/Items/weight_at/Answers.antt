use Rattle.sa_plain.proofs.WeightLemmas.{number-weight, flag-weight}
use Rattle.sa_plain.proofs.items.Items.weight_at.Goals as goal

pub returns-in-Ints-clause-weight : goal.returns-in-Ints-clause-weight
returns-in-Ints-clause-weight c = rw c.in-Ints.is (number-weight c.in-Ints._numbers c.args.k)

pub returns-in-Flags-clause-weight : goal.returns-in-Flags-clause-weight
returns-in-Flags-clause-weight c = rw c.in-Flags.is (flag-weight c.in-Flags._flags c.args.k)
