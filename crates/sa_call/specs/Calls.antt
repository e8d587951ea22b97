-- Calls: their views, and the number of their elements.
use Rattle.std.specs.Prelude.{ℕ, ◌==◌, Bool, true, false, List, [], ◌∷◌, ◌++◌, Option, Some, None, unwrap_or, map, if◌then◌else◌}
use Rattle.std.specs.List.{flat_map}
use Rattle.sa_view.specs.declared.view.View.{View}
use Rattle.sa_view.specs.Broadcasts.{broadcast}
use Rattle.sa_plain.specs.Items.{count_of}
use Rattle.sa_call.specs.declared.call.Operand.{Operand}
use Rattle.sa_call.specs.declared.call.Operand.TheVariants as operand
use Rattle.sa_call.specs.declared.call.Call.{Call}
use Rattle.sa_call.specs.Decls.{Declared, home_of, is_strings_array}

-- how many items an operand has
abbrev pub operand_count : Operand → ℕ
operand_count (operand.View v) = v.count
operand_count (operand.Literal items) = count_of items

abbrev pub output_counts : Option View → List ℕ
output_counts None = []
output_counts (Some out) = out.count ∷ []

-- the counts of the operands and of the output
abbrev pub counts_of : Call → List ℕ
counts_of call = map operand_count call.operands ++ output_counts call.out

-- how many elements a call has: the length of all counts
abbrev pub elements_in : Call → ℕ
elements_in call = unwrap_or (broadcast (counts_of call)) 0

abbrev pub is_count : ℕ → Option View → Bool
is_count n None = true
is_count n (Some out) = out.count == n

-- there is a length, and it is the output's
abbrev pub is_length_of : Option View → Option ℕ → Bool
is_length_of out None = false
is_length_of out (Some n) = is_count n out

-- the counts of operands and output have a length, and it is the output's
abbrev pub lengths_fit : Call → Bool
lengths_fit call = is_length_of call.out (broadcast (counts_of call))

-- the arrays of the views of a call: of the operands in order, then of the output
abbrev pub operand_arrays : List Operand → List ℕ
operand_arrays [] = []
operand_arrays (operand.View v ∷ os) = v.array ∷ operand_arrays os
operand_arrays (operand.Literal items ∷ os) = operand_arrays os

abbrev pub output_arrays : Option View → List ℕ
output_arrays None = []
output_arrays (Some out) = out.array ∷ []

-- the descriptors of those of these arrays that are strings arrays
abbrev pub strings_home : Declared → ℕ → List ℕ
strings_home decls array = if is_strings_array decls array then home_of decls array ∷ [] else []

abbrev pub strings_homes : Declared → List ℕ → List ℕ
strings_homes decls arrays = flat_map (strings_home decls) arrays

abbrev pub homes_in : Declared → Call → List ℕ
homes_in decls call = strings_homes decls (operand_arrays call.operands ++ output_arrays call.out)
