-- What contracts see of a plan.
use Rattle.std.specs.Prelude.{ℕ, List}
use Rattle.sa_text.specs.declared.value.Value.{Value}

-- a plan: an array, and the places in it with their values
pub record PlanValue : Type 0 where
  pub array : ℕ
  pub puts : List (ℕ × Value)
