-- The results of a call, gathered one element after another.
use Rattle.std.specs.Prelude.{◌≡◌, ◌++◌, ◌∷◌, [], ℕ, List, map, Result, Ok, Err}
use Rattle.sa_base.specs.Items.{Item}
use Rattle.sa_text.specs.Values.{value_of}
use Rattle.sa_plain.specs.declared.items.Items.{Items}
use Rattle.sa_plain.specs.declared.items.Items.TheVariants.{Values, Ints, Flags}
use Rattle.sa_call.specs.declared.form.Results.{Results}
use Rattle.sa_call.specs.declared.form.Results.TheVariants as results
use Rattle.sa_call.specs.declared.results.ResultList.{ResultList}
use Rattle.sa_call.specs.declared.results.ResultList.TheVariants as so_far
use Rattle.sa_call.specs.Forms.{entry, flag_in, number_in}
use Rattle.sa_call.specs.declared.call.Call.{Call}
use Rattle.sa_call.specs.declared.reply.Outcome.{Outcome}
use Rattle.sa_call.specs.Calls.{elements_in}
use Rattle.sa_call.specs.Decides.{forbids, outcome_of, results_as, setting_of}
use Rattle.sa_call.specs.Decls.{Declared}
use Rattle.sa_call.specs.Elements.{elements, gathered}
use Rattle.sa_call.specs.Kinds.{ListKind, OfValues, given_items}
use Rattle.sa_call.specs.declared.element.Stop.{Stop}
use Rattle.sa_call.specs.declared.element.Stop.TheVariants as stop
use Rattle.sa_call.specs.declared.reply.Refusal.{Refusal}
use Rattle.sa_call.specs.declared.walking.Halt.{Halt}
use Rattle.sa_call.specs.declared.walking.Halt.TheVariants as halt

-- why an element is not computed, said of its call
abbrev pub halt_at : Stop → ℕ → Halt
halt_at stop.Memory at = halt.Memory
halt_at (stop.Refused cause) at = halt.Refused cause at

-- want of memory apart, the results or the first refusal are those that are defined
abbrev pub HaltsResults : Halt → Result Items (Refusal × ℕ) → Type 0
HaltsResults halt.Memory defined = Unit {0}
HaltsResults (halt.Refused cause at) defined = defined ≡ Err (cause, at)

abbrev pub GivesResults : Result Items Halt → Result Items (Refusal × ℕ) → Type 0
GivesResults (Ok results) defined = defined ≡ Ok results
GivesResults (Err error) defined = HaltsResults error defined

-- results so far, with these items behind them
abbrev pub results_with : ResultList → List Item → Items
results_with (so_far.Values values) items = Values (values ++ map value_of items)
results_with (so_far.Numbers numbers) items = Ints (numbers ++ map number_in items)
results_with (so_far.Flags flags) items = Flags (flags ++ map flag_in items)

-- one result more
abbrev pub with_result : ResultList → Item → ResultList
with_result (so_far.Values values) item = so_far.Values (values ++ value_of item ∷ [])
with_result (so_far.Numbers numbers) item = so_far.Numbers (numbers ++ number_in item ∷ [])
with_result (so_far.Flags flags) item = so_far.Flags (flags ++ flag_in item ∷ [])

-- what a call that moves nothing gives
abbrev pub computed_items : Results → ListKind
computed_items kind = given_items kind OfValues

-- what comes of a call that moves nothing
abbrev pub computed_outcome : Declared → Call → ℕ → List (List Item) → Outcome
computed_outcome decls call weight columns =
    outcome_of call.out (results_as (computed_items (entry call.op).results) (gathered (forbids decls call.out) weight 0 (elements (setting_of decls call) call.op columns (elements_in call))))

abbrev pub no_results : Results → ResultList
no_results results.Moved = so_far.Values []
no_results results.Texts = so_far.Values []
no_results results.Numbers = so_far.Numbers []
no_results results.Flags = so_far.Flags []

-- the results so far and those that are gathered behind them, or the first refusal
abbrev pub joined : ResultList → Result (List Item) (Refusal × ℕ) → Result Items (Refusal × ℕ)
joined results (Ok items) = Ok (results_with results items)
joined results (Err refused) = Err refused
