-- The items of each operand as they were read, before they are told by descriptor.
use Rattle.std.specs.Prelude.{◌≡◌, ℕ, nat_lt, true, List, [], ◌∷◌, map, sum_by, if◌then◌else◌}
use Rattle.sa_plain.specs.Items.{items_of, items_weight}
use Rattle.sa_plain.specs.declared.items.Items.{Items}
use Rattle.sa_call.specs.declared.call.Operand.{Operand}
use Rattle.sa_call.specs.declared.call.Operand.TheVariants as operand
use Rattle.sa_call.specs.declared.call.Call.{Call}
use Rattle.sa_call.specs.declared.reply.Refusal.TheVariants as refusal
use Rattle.sa_call.specs.declared.reply.Outcome.{Outcome}
use Rattle.sa_call.specs.Decides.{outcome_on, refused_with}
use Rattle.sa_call.specs.Decls.{Declared, kind_of}
use Rattle.sa_call.specs.Kinds.{fits_kind}
use Rattle.sa_call.specs.Limits.{most_weight}

-- a literal's own items, and for a view the next list that was read
abbrev pub columns_read : List Operand → List Items → List Items
columns_read [] lists = []
columns_read (operand.Literal items ∷ os) lists = items ∷ columns_read os lists
columns_read (operand.View v ∷ os) [] = []
columns_read (operand.View v ∷ os) (items ∷ lists) = items ∷ columns_read os lists

-- a column is a literal's own items, or what the array of a view may hold
abbrev pub IsColumn : Declared → Operand → Items → Type 0
IsColumn decls (operand.Literal items) column = column ≡ items
IsColumn decls (operand.View v) column = fits_kind (kind_of decls v.array) column ≡ true

abbrev pub AreColumns : Declared → List Operand → List Items → Type 0
AreColumns decls [] [] = Unit {0}
AreColumns decls [] (c ∷ cs) = ⊥
AreColumns decls (o ∷ os) [] = ⊥
AreColumns decls (o ∷ os) (c ∷ cs) = IsColumn decls o c × AreColumns decls os cs

-- what the columns weigh together, each as it is
abbrev pub columns_weight : List Items → ℕ
columns_weight columns = sum_by items_weight columns

-- what comes of columns, which are refused at once where they weigh too much
abbrev pub outcome_read : Declared → Call → List Items → Outcome
outcome_read decls call columns =
    if nat_lt most_weight (columns_weight columns) then refused_with refusal.TooMuch 0
    else outcome_on decls call (columns_weight columns) (map items_of columns)
