-- What the answers of std's readers and writers are to a source and a sink.
use Rattle.std.specs.Prelude.{ℕ, ◌==◌, if◌then◌else◌, Result, Ok, Err}
use Rattle.sa_base.specs.declared.source.Got.{Got}
use Rattle.sa_base.specs.declared.source.Got.TheVariants as got
use Rattle.sa_base.specs.declared.sink.Took.{Took}
use Rattle.sa_base.specs.declared.sink.Took.TheVariants as took

-- a reader that gives no byte is at its end, and one that gives an error has failed
abbrev pub got_of : {E : Type 0} → Result ℕ E → Got
got_of (Ok n) = if n == 0 then got.End else got.Bytes n
got_of (Err e) = got.Failed

-- a writer that takes no byte has failed, as one that gives an error
abbrev pub took_of : {E : Type 0} → Result ℕ E → Took
took_of (Ok n) = if n == 0 then took.Failed else took.Bytes n
took_of (Err e) = took.Failed
