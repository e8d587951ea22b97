-- What stands in a call's line, as it is spelled, and what it means under the declarations so far.
use Rattle.std.specs.Prelude.{ℕ, nat_le, ℤ, pos, negsuc, Bool, true, false, ◌||◌, ◌&&◌, not, List, [], ◌∷◌, Option, Some, None, option_map, unwrap_or, is_none}
use Rattle.std.specs.List.{list_any}
use Rattle.sa_view.specs.Views.{natural, fits, is_zero}
use Rattle.sa_view.specs.Slices.{slice_of}
use Rattle.sa_view.specs.declared.view.View.{View}
use Rattle.sa_text.specs.declared.value.Value.{Value}
use Rattle.sa_text.specs.declared.value.Value.TheVariants.{Missing, Of}
use Rattle.sa_plain.specs.declared.items.Items.{Items}
use Rattle.sa_plain.specs.declared.items.Items.TheVariants.{Values, Ints, Flags, Bytes, Units}
use Rattle.sa_call.specs.declared.call.Op.{Op}
use Rattle.sa_call.specs.declared.call.Operand.{Operand}
use Rattle.sa_call.specs.declared.call.Operand.TheVariants as operand
use Rattle.sa_call.specs.declared.call.Call.{Call}
use Rattle.sa_call.specs.Forms.{on_descr, with_fill}
use Rattle.sa_call.specs.Kinds.{are_values}
use Rattle.sa_call.specs.Valid.{has_missing}
use Rattle.sa_script.specs.declared.context.Context.{Context}
use Rattle.sa_script.specs.declared.statement.Span.{Span}
use Rattle.sa_script.specs.declared.statement.Span.TheVariants.{Whole, Strided, Slice}
use Rattle.sa_script.specs.declared.statement.ViewTerm.{ViewTerm}
use Rattle.sa_script.specs.declared.statement.Term.{Term}
use Rattle.sa_script.specs.declared.statement.Term.TheVariants as term
use Rattle.sa_script.specs.declared.statement.Line.{Line}
use Rattle.sa_script.specs.Contexts.{array_number, used_array, used_length, descr_number, home_number}

-- the view of a whole array of this length: each place once, in order
abbrev pub whole : ℕ → ℕ → View
whole array len = record { array = array; start = 0; count = len; step = pos 1 }

-- a number that is left out, or that is no i64, gives way to this one
abbrev pub given_or : ℤ → Option (Option ℤ) → ℤ
given_or without None = without
given_or without (Some None) = without
given_or without (Some (Some n)) = n

-- a bound that is left out, or that is no i64, is none
abbrev pub given : Option (Option ℤ) → Option ℤ
given None = None
given (Some n) = n

-- the view of an array of this number and length that a span means
abbrev pub view_at : ℕ → ℕ → Span → View
view_at array len Whole = whole array len
view_at array len (Strided start count step) = record { array = array; start = natural (unwrap_or start (pos 0)); count = natural (unwrap_or count (pos 0)); step = unwrap_or step (pos 1) }
view_at array len (Slice from to step) = slice_of array len (given from) (given to) (given_or (pos 1) step)

-- a number of 32 bits without a sign, and one with a sign
abbrev pub is_u32 : Option ℤ → Bool
is_u32 None = false
is_u32 (Some (pos n)) = nat_le n 4294967295
is_u32 (Some (negsuc n)) = false

abbrev pub is_i32 : ℤ → Bool
is_i32 (pos n) = nat_le n 2147483647
is_i32 (negsuc n) = nat_le n 2147483647

abbrev pub is_step : Option ℤ → Bool
is_step None = false
is_step (Some n) = is_i32 n

-- The span means a view of an array of this length: start and count are numbers of 32 bits, the step is one with a sign, that of a slice is not 0, and the view fits.
abbrev pub span_fits : ℕ → ℕ → Span → Bool
span_fits array len Whole = true
span_fits array len (Strided start count step) = ((is_u32 start && is_u32 count) && is_step step) && fits len (view_at array len (Strided start count step))
span_fits array len (Slice from to step) = is_i32 (given_or (pos 1) step) && not (is_zero (given_or (pos 1) step))

abbrev pub is_past : Option (Option ℤ) → Bool
is_past None = false
is_past (Some n) = is_none n

-- a number of the span is no i64
abbrev pub span_passes : Span → Bool
span_passes Whole = false
span_passes (Strided start count step) = (is_none start || is_none count) || is_none step
span_passes (Slice from to step) = (is_past from || is_past to) || is_past step

abbrev pub is_slice : Span → Bool
is_slice Whole = false
is_slice (Strided start count step) = false
is_slice (Slice from to step) = true

-- the view that a view of a line means
abbrev pub view_in : Context → ViewTerm → View
view_in c v = view_at (used_array c v.name) (used_length c v.name) v.span

-- of a view of a line: it is a slice; its name is no array's; a number of it is no i64; it is no view of its array
abbrev pub term_slices : Term → Bool
term_slices (term.View v) = is_slice v.span
term_slices (term.List items) = false
term_slices (term.Fill items) = false
term_slices (term.Descr name) = false

abbrev pub view_misnamed : Context → ViewTerm → Bool
view_misnamed c v = is_none (array_number c v.name)

abbrev pub view_unfit : Context → ViewTerm → Bool
view_unfit c v = not (span_fits (used_array c v.name) (used_length c v.name) v.span)

abbrev pub term_misnamed : Context → Term → Bool
term_misnamed c (term.View v) = view_misnamed c v
term_misnamed c (term.List items) = false
term_misnamed c (term.Fill items) = false
term_misnamed c (term.Descr name) = is_none (descr_number c name)

abbrev pub term_passes : Term → Bool
term_passes (term.View v) = span_passes v.span
term_passes (term.List items) = is_none items
term_passes (term.Fill items) = is_none items
term_passes (term.Descr name) = false

abbrev pub term_unfit : Context → Term → Bool
term_unfit c (term.View v) = view_unfit c v
term_unfit c (term.List items) = false
term_unfit c (term.Fill items) = false
term_unfit c (term.Descr name) = false

-- the items of a list; none of one that passes a limit
abbrev pub given_items : Option Items → Items
given_items items = unwrap_or items (Values [])

-- the one code point of one text
abbrev pub point_of : List ℕ → Option ℕ
point_of [] = None
point_of (p ∷ []) = Some p
point_of (p ∷ q ∷ ps) = None

abbrev pub value_point : Value → Option ℕ
value_point Missing = None
value_point (Of text) = point_of text

abbrev pub values_point : List Value → Option ℕ
values_point [] = None
values_point (v ∷ []) = value_point v
values_point (v ∷ w ∷ vs) = None

-- the fill that a list is: the one code point of its one text
abbrev pub fill_of : Items → Option ℕ
fill_of (Values values) = values_point values
fill_of (Ints numbers) = None
fill_of (Flags flags) = None
fill_of (Bytes rows) = None
fill_of (Units rows) = None

-- items are texts of which none is missing
abbrev pub are_texts : Items → Bool
are_texts items = are_values items && not (has_missing items)

-- of a fill: it is of another kind than texts, or has a missing value; it is not one text of one code point
abbrev pub term_miskinded : Term → Bool
term_miskinded (term.View v) = false
term_miskinded (term.List items) = false
term_miskinded (term.Fill items) = not (are_texts (given_items items))
term_miskinded (term.Descr name) = false

abbrev pub term_misfilled : Term → Bool
term_misfilled (term.View v) = false
term_misfilled (term.List items) = false
term_misfilled (term.Fill items) = is_none (fill_of (given_items items))
term_misfilled (term.Descr name) = false

-- the same of an output
abbrev pub of_output : (ViewTerm → Bool) → Option ViewTerm → Bool
of_output test None = false
of_output test (Some v) = test v

abbrev pub line_slices : Line → Bool
line_slices l = list_any term_slices l.operands || of_output (λ v. is_slice v.span) l.out

abbrev pub line_misnamed : Context → Line → Bool
line_misnamed c l = list_any (term_misnamed c) l.operands || of_output (view_misnamed c) l.out

abbrev pub line_passes : Line → Bool
line_passes l = list_any term_passes l.operands || of_output (λ v. span_passes v.span) l.out

abbrev pub line_miskinded : Line → Bool
line_miskinded l = list_any term_miskinded l.operands

abbrev pub line_misfilled : Line → Bool
line_misfilled l = list_any term_misfilled l.operands

abbrev pub line_unfit : Context → Line → Bool
line_unfit c l = list_any (term_unfit c) l.operands || of_output (view_unfit c) l.out

-- the operands that a line means; a fill and a descriptor's name stand in the call itself
abbrev pub operands_in : Context → List Term → List Operand
operands_in c [] = []
operands_in c (term.View v ∷ ts) = operand.View (view_in c v) ∷ operands_in c ts
operands_in c (term.List items ∷ ts) = operand.Literal (given_items items) ∷ operands_in c ts
operands_in c (term.Fill items ∷ ts) = operands_in c ts
operands_in c (term.Descr name ∷ ts) = operands_in c ts

-- the call with this fill; with its own where a list is no fill
abbrev pub filled : Op → Option ℕ → Op
filled op None = op
filled op (Some fill) = with_fill op fill

-- the call on the descriptor that a line names, and with its fill
abbrev pub op_in : Context → Op → List Term → Op
op_in c op [] = op
op_in c op (term.View v ∷ ts) = op_in c op ts
op_in c op (term.List items ∷ ts) = op_in c op ts
op_in c op (term.Fill items ∷ ts) = op_in c (filled op (fill_of (given_items items))) ts
op_in c op (term.Descr name ∷ ts) = op_in c (on_descr op (home_number c name)) ts

-- the call that a line means
abbrev pub call_in : Context → Line → Call
call_in c l = record { op = op_in c l.op l.operands; operands = operands_in c l.operands; out = option_map (view_in c) l.out }
