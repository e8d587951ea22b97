-- What the lines of a script before one keep.
use Rattle.std.specs.Prelude.{◌≡◌, length, sum_by}
use Rattle.sa_script.specs.declared.context.Context.{Context}
use Rattle.sa_script.specs.Sound.{IsSound, IsVersion}

-- what the lines so far declared and call is sound, and its calls are counted
pub record IsSoundContext (c : Context) : Type 0 where
  pub version : IsVersion c.version
  pub sound : IsSound (record { descrs = c.descrs; arrays = c.arrays }) c.names c.tasks
  pub counted : sum_by length c.tasks ≡ c.calls
