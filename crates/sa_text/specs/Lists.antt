-- Lists of values, wherever they stand: this project's own layout.
use Rattle.std.specs.Prelude.{◌≡◌, ◌≤◌, ◌*◌, ℕ, List, length, Option, IfSome}
use Rattle.std.specs.Arc.{arc_value}
use Rattle.sa_text.specs.declared.value.Value.{Value}
use Rattle.sa_text.specs.declared.value_list.Held.{Held}
use Rattle.sa_text.specs.declared.value_list.Held.TheVariants.{Own, Shared}
use Rattle.sa_text.specs.Values.{stretched, weight_of}

-- the values that are held: those of a vector, or of a shared one, where one alone is stretched
abbrev pub values_held : Held → List Value
values_held (Own values) = values.items
values_held (Shared count weight values) = stretched count (arc_value values).items

-- the weight that is kept, if any, is that of the values
abbrev pub IsWeight : Option ℕ → List Value → Type 0
IsWeight kept values = IfSome kept (λ weight. (weight ≡ weight_of values) × (weight ≤ 65552 * length values))

abbrev pub IsWeighed : Held → Type 0
IsWeighed (Own values) = Unit {0}
IsWeighed (Shared count weight values) = IsWeight weight (stretched count (arc_value values).items)
