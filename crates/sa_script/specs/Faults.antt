-- The faults of a script: for each, whether a statement has it in its place. This project's own rules.
use Rattle.std.specs.Prelude.{ℕ, ◌+◌, nat_le, nat_lt, ◌==◌, ℤ, pos, negsuc, Bool, true, false, ◌||◌, ◌&&◌, not, List, length, Option, Some, None, is_none, if◌then◌else◌}
use Rattle.sa_script.specs.declared.cause.Cause.{Cause}
use Rattle.sa_script.specs.declared.cause.Cause.TheVariants as cause
use Rattle.sa_script.specs.declared.context.Context.{Context}
use Rattle.sa_script.specs.declared.statement.KindTerm.{KindTerm}
use Rattle.sa_script.specs.declared.statement.KindTerm.TheVariants as term
use Rattle.sa_script.specs.declared.statement.Statement.{Statement}
use Rattle.sa_script.specs.declared.statement.Statement.TheVariants as statement
use Rattle.sa_plain.specs.Widths.{most_width}
use Rattle.sa_call.specs.Calls.{lengths_fit}
use Rattle.sa_call.specs.Decls.{entries_of}
use Rattle.sa_call.specs.Valid.{call_kinds_fit, rules_fit}
use Rattle.sa_script.specs.Contexts.{declared_in, is_known, descr_number, home_number}
use Rattle.sa_script.specs.Terms.{line_slices, line_misnamed, line_passes, line_unfit, line_miskinded, line_misfilled, call_in}
use Rattle.sa_script.specs.Limits.{most_descrs, most_arrays, most_entries, most_tasks, most_calls, most_name_bytes}

-- the number of a cause in the output
abbrev pub code_of : Cause → ℕ
code_of cause.Utf8 = 1
code_of cause.Syntax = 2
code_of cause.Order = 3
code_of cause.Name = 4
code_of cause.Limit = 5
code_of cause.View = 6
code_of cause.Kind = 7
code_of cause.Lengths = 8
code_of cause.Clash = 9
code_of cause.Fill = 10
code_of cause.Cut = 11

-- a line of the second version in a script of the first, or the version behind another statement
abbrev pub misplaced : Context → Statement → Bool
misplaced c statement.Version = c.begun
misplaced c (statement.Descr name rule coerce) = false
misplaced c (statement.Array name home kind len) = false
misplaced c statement.Task = false
misplaced c (statement.Call l) = (c.version == 1) && line_slices l
misplaced c statement.End = false

abbrev pub has_tasks : Context → Bool
has_tasks c = nat_lt 0 (length c.tasks)

-- a declaration after the first task, a call before it, or a statement after the end
abbrev pub out_of_order : Context → Statement → Bool
out_of_order c statement.Version = c.ended
out_of_order c (statement.Descr name rule coerce) = c.ended || has_tasks c
out_of_order c (statement.Array name home kind len) = c.ended || has_tasks c
out_of_order c statement.Task = c.ended
out_of_order c (statement.Call l) = c.ended || not (has_tasks c)
out_of_order c statement.End = c.ended

-- a name that is declared already, or one that is used and not declared, or declared as the other sort
abbrev pub misnamed : Context → Statement → Bool
misnamed c statement.Version = false
misnamed c (statement.Descr name rule coerce) = is_known c.names name
misnamed c (statement.Array name home kind len) = is_known c.names name || is_none (descr_number c home)
misnamed c statement.Task = false
misnamed c (statement.Call l) = line_misnamed c l
misnamed c statement.End = false

abbrev pub is_long : List ℕ → Bool
is_long name = nat_lt most_name_bytes (length name)

-- a length below 0 or no i64, or one with which the arrays of the descriptor pass their limit together
abbrev pub passes_entries : ℕ → Option ℤ → Bool
passes_entries before None = true
passes_entries before (Some (pos n)) = nat_lt most_entries (before + n)
passes_entries before (Some (negsuc n)) = true

-- a width that is below 1, above the most or no i64
abbrev pub width_passes : Option ℤ → Bool
width_passes None = true
width_passes (Some (pos n)) = nat_lt n 1 || nat_lt most_width n
width_passes (Some (negsuc n)) = true

abbrev pub kind_passes : KindTerm → Bool
kind_passes term.Str = false
kind_passes term.Int = false
kind_passes term.Bool = false
kind_passes (term.Bytes width) = width_passes width
kind_passes (term.Fixed width) = width_passes width

-- a limit is passed by this statement, a length is below 0, a width is below 1, or a number is no i64
abbrev pub over_limit : Context → Statement → Bool
over_limit c statement.Version = false
over_limit c (statement.Descr name rule coerce) = (is_long name || is_none rule) || nat_le most_descrs (length c.descrs)
over_limit c (statement.Array name home kind len) = ((is_long name || nat_le most_arrays (length c.arrays)) || kind_passes kind) || passes_entries (entries_of c.arrays (home_number c home)) len
over_limit c statement.Task = nat_le most_tasks (length c.tasks)
over_limit c (statement.Call l) = line_passes l || nat_le most_calls c.calls
over_limit c statement.End = false

-- a view of the call is none of its array
abbrev pub bad_view : Context → Statement → Bool
bad_view c statement.Version = false
bad_view c (statement.Descr name rule coerce) = false
bad_view c (statement.Array name home kind len) = false
bad_view c statement.Task = false
bad_view c (statement.Call l) = line_unfit c l
bad_view c statement.End = false

-- an operand, a fill or the output of the call is of another kind than the table asks for, or has a missing value where none may stand
abbrev pub bad_kind : Context → Statement → Bool
bad_kind c statement.Version = false
bad_kind c (statement.Descr name rule coerce) = false
bad_kind c (statement.Array name home kind len) = false
bad_kind c statement.Task = false
bad_kind c (statement.Call l) = line_miskinded l || not (call_kinds_fit (declared_in c) (call_in c l))
bad_kind c statement.End = false

-- the counts of operands and output have no broadcast, or the output's count is not the broadcast
abbrev pub bad_lengths : Context → Statement → Bool
bad_lengths c statement.Version = false
bad_lengths c (statement.Descr name rule coerce) = false
bad_lengths c (statement.Array name home kind len) = false
bad_lengths c statement.Task = false
bad_lengths c (statement.Call l) = not (lengths_fit (call_in c l))
bad_lengths c statement.End = false

-- two descriptors of views of the call, its output included, have rules that differ
abbrev pub bad_rules : Context → Statement → Bool
bad_rules c statement.Version = false
bad_rules c (statement.Descr name rule coerce) = false
bad_rules c (statement.Array name home kind len) = false
bad_rules c statement.Task = false
bad_rules c (statement.Call l) = not (rules_fit (declared_in c) (call_in c l))
bad_rules c statement.End = false

-- the fill of the call is not one text of one code point
abbrev pub bad_fill : Context → Statement → Bool
bad_fill c statement.Version = false
bad_fill c (statement.Descr name rule coerce) = false
bad_fill c (statement.Array name home kind len) = false
bad_fill c statement.Task = false
bad_fill c (statement.Call l) = line_misfilled l
bad_fill c statement.End = false

-- the first fault of a statement, in the order of their numbers
abbrev pub fault_of : Context → Statement → Option Cause
fault_of c s =
    if misplaced c s then Some cause.Syntax
    else (if out_of_order c s then Some cause.Order
    else (if misnamed c s then Some cause.Name
    else (if over_limit c s then Some cause.Limit
    else (if bad_view c s then Some cause.View
    else (if bad_kind c s then Some cause.Kind
    else (if bad_lengths c s then Some cause.Lengths
    else (if bad_rules c s then Some cause.Clash
    else (if bad_fill c s then Some cause.Fill
    else None))))))))
