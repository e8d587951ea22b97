-- What holds of calls.
use Rattle.std.specs.Prelude.{◌≡◌, ℕ, List, map}
use Rattle.sa_plain.specs.Items.{count_of}
use Rattle.sa_plain.specs.declared.items.Items.{Items}
use Rattle.sa_call.specs.declared.call.Call.{Call}
use Rattle.sa_call.specs.declared.form.Gives.TheVariants as gives
use Rattle.sa_call.specs.declared.operands.Operands.TheVariants as operands
use Rattle.sa_call.specs.Columns.{columns_read, outcome_read}
use Rattle.sa_call.specs.Decides.{decide}
use Rattle.sa_call.specs.Decls.{Declared, IsDeclared}
use Rattle.sa_call.specs.Forms.{entry}
use Rattle.sa_call.specs.Told.{parts_told, view_counts}
use Rattle.sa_call.specs.Valid.{IsCall}

-- What comes of a valid call by the lists that it read, one for each view and as long, is what comes of it by descriptor.
abbrev pub PartsDecide : Type 0
PartsDecide = (decls : Declared) (call : Call) (lists : List Items) (weights : List ℕ) → IsDeclared decls → IsCall decls call → (entry call.op).gives ≡ gives.Items → map count_of lists ≡ view_counts call.operands
    → outcome_read decls call (columns_read call.operands lists) ≡ decide decls call (parts_told decls call (operands.Items lists) weights)
