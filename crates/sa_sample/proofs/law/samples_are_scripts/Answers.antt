use Rattle.sa_sample.proofs.ScriptLemmas.{samples_are_scripts}
use Rattle.sa_sample.proofs.law.samples_are_scripts.Goals as goal

pub returns : goal.returns
returns c = samples_are_scripts
