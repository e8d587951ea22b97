-- Calls that are valid under declarations, by the table of calls.
use Rattle.std.specs.Prelude.{◌≡◌, ◌≤◌, ℕ, ℤ, nat_lt, Bool, true, false, ◌&&◌, ◌||◌, not, List, [], ◌∷◌, ◌++◌, length, take, filter, Option, Some, None, is_none, is_some, is_ok}
use Rattle.std.specs.List.{AllByRecursion, list_all, list_any}
use Rattle.sa_text.specs.Values.{IsTextValue, is_missing}
use Rattle.sa_view.specs.Views.{fits}
use Rattle.sa_view.specs.declared.view.View.{View}
use Rattle.sa_plain.specs.Items.{count_of, values_of}
use Rattle.sa_plain.specs.declared.items.Items.{Items}
use Rattle.sa_plain.specs.declared.items.Items.TheVariants.{Values, Ints, Flags, Bytes, Units}
use Rattle.sa_descr.specs.Rules.{combination, rules_of}
use Rattle.sa_call.specs.declared.call.Op.{Op}
use Rattle.sa_call.specs.declared.call.Operand.{Operand}
use Rattle.sa_call.specs.declared.call.Operand.TheVariants as operand
use Rattle.sa_call.specs.declared.call.Call.{Call}
use Rattle.sa_call.specs.declared.form.Sort.{Sort}
use Rattle.sa_call.specs.declared.form.Sort.TheVariants as sort
use Rattle.sa_call.specs.declared.form.Results.{Results}
use Rattle.sa_call.specs.declared.form.Results.TheVariants as results
use Rattle.sa_call.specs.declared.form.Into.{Into}
use Rattle.sa_call.specs.declared.form.Into.TheVariants as into
use Rattle.sa_call.specs.Calls.{homes_in, lengths_fit}
use Rattle.sa_call.specs.declared.decls.Kind.{Kind}
use Rattle.sa_call.specs.Decls.{Declared, is_strings, is_strings_array, kind_of, length_at}
use Rattle.sa_call.specs.Forms.{entry, descr_of, is_operand}
use Rattle.sa_call.specs.Kinds.{are_values, fits_kind, holds_numbers, holds_truths, is_same_kind}
use Rattle.sa_call.specs.Limits.{most_items}

-- an operand has the spelling of its sort: a view, a list, or any of the two
abbrev pub is_of : Sort → Operand → Bool
is_of sort.View (operand.View v) = true
is_of sort.View (operand.Literal items) = false
is_of sort.Literal (operand.View v) = false
is_of sort.Literal (operand.Literal items) = true
is_of sort.Texts o = true
is_of sort.Numbers o = true
is_of sort.Fill o = false
is_of sort.Descr o = false

-- an operand has the kind of its sort: texts of which none is missing, or numbers; what is moved may be of any kind
abbrev pub has_missing : Items → Bool
has_missing items = list_any is_missing (values_of items)

abbrev pub are_numbers : Items → Bool
are_numbers (Values values) = false
are_numbers (Ints numbers) = true
are_numbers (Flags flags) = false
are_numbers (Bytes rows) = false
are_numbers (Units rows) = false

abbrev pub is_kind : Declared → Sort → Operand → Bool
is_kind d sort.View o = true
is_kind d sort.Literal o = true
is_kind d sort.Texts (operand.View v) = is_strings_array d v.array
is_kind d sort.Texts (operand.Literal items) = are_values items && not (has_missing items)
is_kind d sort.Numbers (operand.View v) = holds_numbers (kind_of d v.array)
is_kind d sort.Numbers (operand.Literal items) = are_numbers items
is_kind d sort.Fill o = true
is_kind d sort.Descr o = true

-- there is an operand for each of these sorts, and each passes
abbrev pub all_are : (Sort → Operand → Bool) → List Sort → List Operand → Bool
all_are test [] [] = true
all_are test [] (o ∷ os) = false
all_are test (s ∷ ss) [] = false
all_are test (s ∷ ss) (o ∷ os) = test s o && all_are test ss os

abbrev pub are_of : List Sort → List Operand → Bool
are_of sorts operands = all_are is_of (filter is_operand sorts) operands

abbrev pub is_empty : List ℤ → Bool
is_empty [] = true
is_empty (n ∷ ns) = false

-- all operands of the call; or, where no numbers stand for those that may be left out, the others alone
abbrev pub fit_table : Op → List Operand → Bool
fit_table o operands = (is_empty (entry o).defaults && are_of (entry o).needs operands) || are_of ((entry o).needs ++ (entry o).may) operands

-- each operand has the kind that the table asks for
abbrev pub kinds_fit : Declared → Op → List Operand → Bool
kinds_fit d o operands = all_are (is_kind d) (take (length operands) (filter is_operand ((entry o).needs ++ (entry o).may))) operands

-- an operand may be moved into an array of a kind: a view of an array of the same kind and width, or items that the array may hold
abbrev pub moves_into : Declared → Kind → Operand → Bool
moves_into d k (operand.View v) = is_same_kind (kind_of d v.array) k
moves_into d k (operand.Literal items) = fits_kind k items

-- results go into an array of their kind
abbrev pub goes_into : Declared → Kind → List Operand → Results → Bool
goes_into d k operands results.Moved = list_all (moves_into d k) operands
goes_into d k operands results.Texts = is_strings k
goes_into d k operands results.Numbers = holds_numbers k
goes_into d k operands results.Flags = holds_truths k

abbrev pub results_fit : Declared → Results → List Operand → Option View → Bool
results_fit d given operands None = true
results_fit d given operands (Some out) = goes_into d (kind_of d out.array) operands given

-- the operands and the results have the kinds that the table asks for
abbrev pub call_kinds_fit : Declared → Call → Bool
call_kinds_fit d call = kinds_fit d call.op call.operands && results_fit d (entry call.op).results call.operands call.out

-- the rules of the call's views combine, where missing values are not moved as they are
abbrev pub rules_fit : Declared → Call → Bool
rules_fit d call = is_none (entry call.op).group || is_ok (combination (rules_of d.descrs (homes_in d call)))

-- an output stands where it must, and none where it never does
abbrev pub output_stands : Into → Option View → Bool
output_stands into.Never out = is_none out
output_stands into.May out = true
output_stands into.Must out = is_some out
output_stands into.First out = is_some out

-- the view is of a declared array and fits it
abbrev pub is_view_of : Declared → View → Bool
is_view_of d v = nat_lt v.array (length d.arrays) && fits (length_at d.arrays v.array) v

abbrev pub is_operand_of : Declared → Operand → Bool
is_operand_of d (operand.View v) = is_view_of d v
is_operand_of d (operand.Literal items) = true

abbrev pub is_output_of : Declared → Option View → Bool
is_output_of d None = true
is_output_of d (Some v) = is_view_of d v

abbrev pub is_descr_of : Declared → Option ℕ → Bool
is_descr_of d None = true
is_descr_of d (Some n) = nat_lt n (length d.descrs)

-- the items of a literal list: there is one at least, no more than a list may have, and their texts are texts
pub record IsLiteral (items : Items) : Type 0 where
  pub some : 1 ≤ count_of items
  pub few : count_of items ≤ most_items
  pub texts : AllByRecursion IsTextValue (values_of items)

abbrev pub IsLiteralOperand : Operand → Type 0
IsLiteralOperand (operand.View v) = Unit {0}
IsLiteralOperand (operand.Literal items) = IsLiteral items

-- The call is valid under these declarations: operands and output are those that the table asks for, views fit declared arrays, a descriptor is declared, the counts fit, and the rules combine.
pub record IsCall (d : Declared) (call : Call) : Type 0 where
  pub sorts : fit_table call.op call.operands ≡ true
  pub kinds : kinds_fit d call.op call.operands ≡ true
  pub results : results_fit d (entry call.op).results call.operands call.out ≡ true
  pub output : output_stands (entry call.op).into call.out ≡ true
  pub views : list_all (is_operand_of d) call.operands ≡ true
  pub into : is_output_of d call.out ≡ true
  pub descr : is_descr_of d (descr_of call.op) ≡ true
  pub lengths : lengths_fit call ≡ true
  pub rules : rules_fit d call ≡ true
  pub literals : AllByRecursion IsLiteralOperand call.operands
