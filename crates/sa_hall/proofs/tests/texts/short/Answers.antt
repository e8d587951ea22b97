use Rattle.std.proofs.Common.{ap}
use Rattle.std.specs.Str.{chars}
use Rattle.sa_text.specs.declared.value.Value.TheVariants.{Of}
use Rattle.sa_hall.proofs.tests.texts.short.Goals as goal

pub returns : goal.returns
unfolding chars
returns c = ap Of c.in_ok-from_utf8.ensures
