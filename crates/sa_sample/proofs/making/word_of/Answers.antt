use Rattle.std.proofs.Common.{sym, ap, ◌∙◌}
use lib.Utf8.{encode}
use Rattle.sa_sample.specs.Samples.{word_of}
use Rattle.sa_sample.proofs.making.word_of.Goals as goal

pub returns-in-1 : goal.returns-in-1
unfolding encode
returns-in-1 c = c.as_bytes.ensures.value ∙ ap word_of (sym c.in-1.is)

pub returns-in-4 : goal.returns-in-4
unfolding encode
returns-in-4 c = c.as_bytes-in-4.ensures.value ∙ ap word_of (sym c.in-4.is)
