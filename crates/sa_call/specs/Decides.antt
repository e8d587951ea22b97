-- What a call makes of what it read: its results and its reply.
use Rattle.std.specs.Prelude.{ℕ, nat_lt, Bool, false, not, List, [], map, Option, Some, None, Result, Ok, Err, if◌then◌else◌}
use Rattle.sa_base.specs.Items.{Item}
use Rattle.sa_base.specs.Deeds.{Part, Read, Weighed, Counted, Pictured, PictureWeighed, part_at}
use Rattle.sa_descr.specs.Missing.{miss_of}
use Rattle.sa_descr.specs.Rules.{combination, is_given, rule_at, rules_of}
use Rattle.sa_descr.specs.declared.descr.NaRule.{NaRule}
use Rattle.sa_descr.specs.declared.descr.NaRule.TheVariants.{Absent, Nan, Other, Txt}
use Rattle.sa_descr.specs.declared.missing.MissGroup.{MissGroup}
use Rattle.sa_view.specs.declared.view.View.{View}
use Rattle.sa_plain.specs.Plains.{padded_item}
use Rattle.sa_plain.specs.declared.items.Items.{Items}
use Rattle.sa_call.specs.declared.call.Call.{Call}
use Rattle.sa_call.specs.declared.form.Results.{Results}
use Rattle.sa_call.specs.declared.form.Results.TheVariants as results
use Rattle.sa_call.specs.declared.reply.Refusal.{Refusal}
use Rattle.sa_call.specs.declared.reply.Refusal.TheVariants as refusal
use Rattle.sa_call.specs.declared.reply.Reply.{Reply}
use Rattle.sa_call.specs.declared.reply.Reply.TheVariants as reply
use Rattle.sa_call.specs.declared.reply.Outcome.{Outcome}
use Rattle.sa_call.specs.Calls.{elements_in, homes_in}
use Rattle.sa_call.specs.Decls.{Declared, home_of}
use Rattle.sa_call.specs.Elements.{Setting, elements, gathered}
use Rattle.sa_call.specs.Forms.{descr_of, entry}
use Rattle.sa_call.specs.Kinds.{ListKind, first_items, given_items, items_as, output_width}
use Rattle.sa_call.specs.Limits.{most_weight}
use Rattle.sa_call.specs.Parts.{Parts, items_read, weight_read, columns_of}

-- the number of a refusal in a report
abbrev pub refusal_code : Refusal → ℕ
refusal_code refusal.NoMissing = 1
refusal_code refusal.MissingValue = 2
refusal_code refusal.TooLong = 3
refusal_code refusal.TooMuch = 4
refusal_code refusal.NotFound = 9

-- a call that is refused at an element changes nothing
abbrev pub refused_with : Refusal → ℕ → Outcome
refused_with cause at = record { results = None; reply = reply.Refused (refusal_code cause) at }

-- Whether the output forbids missing values: its descriptor has none.
abbrev pub forbids : Declared → Option View → Bool
forbids decls None = false
forbids decls (Some out) = not (is_given (rule_at (map (λ d. d.na) decls.descrs) (home_of decls out.array)))

-- the rule of a call: the combination of those of its strings views, the output included
abbrev pub rule_or_absent : Result NaRule (ℕ × ℕ) → NaRule
rule_or_absent (Ok rule) = rule
rule_or_absent (Err clash) = Absent

abbrev pub rule_in : Declared → Call → NaRule
rule_in decls call = rule_or_absent (combination (rules_of decls.descrs (homes_in decls call)))

-- the text of a text rule
abbrev pub text_of_rule : NaRule → List ℕ
text_of_rule Absent = []
text_of_rule Nan = []
text_of_rule Other = []
text_of_rule (Txt text) = text

-- how a call of a group treats missing values under a rule
abbrev pub setting_by : Option MissGroup → NaRule → Setting
setting_by None rule = record { miss = None; blank = [] }
setting_by (Some group) rule = record { miss = Some (miss_of group rule); blank = text_of_rule rule }

abbrev pub setting_of : Declared → Call → Setting
setting_of decls call = setting_by (entry call.op).group (rule_in decls call)

-- what is moved is given as the output holds it, a text of a fixed width with zeros behind it; what is computed is given as it is
abbrev pub given_item : Results → ℕ → Item → Item
given_item results.Moved width item = padded_item width item
given_item results.Texts width item = item
given_item results.Numbers width item = item
given_item results.Flags width item = item

-- an element that is refused stays so
abbrev pub given_element : (Item → Item) → Result Item Refusal → Result Item Refusal
given_element item (Ok found) = Ok (item found)
given_element item (Err cause) = Err cause

-- the elements of a call as it gives them
abbrev pub given_elements : Declared → Call → List (List Item) → List (Result Item Refusal)
given_elements decls call columns = map (given_element (given_item (entry call.op).results (output_width decls call.out))) (elements (setting_of decls call) call.op columns (elements_in call))

-- what the items that a call gives are
abbrev pub kind_given : Declared → Call → ListKind
kind_given decls call = given_items (entry call.op).results (first_items decls call.operands)

-- the results, or the first refusal and its place
abbrev pub results_as : ListKind → Result (List Item) (Refusal × ℕ) → Result Items (Refusal × ℕ)
results_as kind (Ok items) = Ok (items_as kind items)
results_as kind (Err refused) = Err refused

-- the first refusal, or the results: put into the output, or answered where there is none
abbrev pub outcome_of : Option View → Result Items (Refusal × ℕ) → Outcome
outcome_of out (Err refused) = refused_with refused.0 refused.1
outcome_of None (Ok results) = record { results = None; reply = reply.Shown results }
outcome_of (Some out) (Ok results) = record { results = Some results; reply = reply.Done }

-- what comes of the items of the operands, which have this weight
abbrev pub outcome_on : Declared → Call → ℕ → List (List Item) → Outcome
outcome_on decls call weight columns =
    outcome_of call.out (results_as (kind_given decls call) (gathered (forbids decls call.out) weight 0 (given_elements decls call columns)))

abbrev pub done : Reply → Outcome
done answer = record { results = None; reply = answer }

-- the statistics or the picture that was read of the descriptor; another part tells nothing
abbrev pub told_by : Part → Outcome
told_by (Counted stats) = done (reply.Sized stats)
told_by (Pictured entries arena) = done (reply.Pictured (record { entries = entries; arena = arena }))
told_by (Read items) = done reply.Done
told_by (Weighed places weight) = done reply.Done
told_by (PictureWeighed weight) = done reply.Done

-- what comes of a call that is not too heavy: of the descriptor whose statistics or picture it gives, or of its operands
abbrev pub decided : Declared → Call → Option ℕ → Parts → Outcome
decided decls call (Some d) parts = told_by (part_at parts d)
decided decls call None parts = outcome_on decls call (weight_read call parts) (columns_of decls (λ d. items_read (part_at parts d)) call.operands)

-- What comes of a call, by what it read of its descriptors. Where that weighs too much it is refused at once.
abbrev pub decide : Declared → Call → Parts → Outcome
decide decls call parts = if nat_lt most_weight (weight_read call parts) then refused_with refusal.TooMuch 0 else decided decls call (descr_of call.op) parts
