-- What holds of every sample.
use Rattle.std.specs.Prelude.{◌≡◌, ℕ, Ok}
use Rattle.sa_script.specs.Scripts.{ScriptValue, meaning}
use Rattle.sa_sample.specs.Samples.{sample_of}

-- each sample is a script
abbrev pub SamplesAreScripts : Type 0
SamplesAreScripts = (number : ℕ) → (script : ScriptValue) × (meaning (sample_of number) ≡ Ok script)
