-- The kinds of operands, one after another by the sorts that the table names.
use Rattle.std.specs.Prelude.{List, [], ◌∷◌, Option, Some, None, if◌then◌else◌}
use Rattle.sa_call.specs.declared.call.Operand.{Operand}
use Rattle.sa_call.specs.declared.form.Sort.{Sort}
use Rattle.sa_call.specs.Decls.{Declared}
use Rattle.sa_call.specs.Forms.{is_operand}
use Rattle.sa_call.specs.Valid.{is_kind}

-- the operands behind those of these sorts, none where one has another kind than its sort; operands may end before the sorts
abbrev pub kinds_read : Declared → List Sort → List Operand → Option (List Operand)
kinds_read d [] os = Some os
kinds_read d (s ∷ ss) [] = Some []
kinds_read d (s ∷ ss) (o ∷ os) = if is_operand s then (if is_kind d s o then kinds_read d ss os else None) else kinds_read d ss (o ∷ os)
