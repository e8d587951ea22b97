-- What was read for a call, told by descriptor.
use Rattle.std.specs.Prelude.{◌≡◌, ℕ, ◌+◌, ◌<◌, ◌≤◌, ◌==◌, Bool, true, false, ◌&&◌, ◌||◌, not, List, [], ◌∷◌, ◌++◌, length, take, map, filter, count_by, sum, sum_by, zip, Option, Some, None, if◌then◌else◌}
use Rattle.std.specs.List.{range_with_len, list_any}
use Rattle.sa_base.specs.Items.{Item}
use Rattle.sa_base.specs.Deeds.{Place, Part, Read, Weighed, Counted, Pictured, PictureWeighed}
use Rattle.sa_view.specs.Views.{places_of}
use Rattle.sa_view.specs.declared.view.View.{View}
use Rattle.sa_plain.specs.Items.{count_of, items_of}
use Rattle.sa_plain.specs.declared.items.Items.{Items}
use Rattle.sa_call.specs.declared.call.Operand.{Operand}
use Rattle.sa_call.specs.declared.call.Operand.TheVariants as operand
use Rattle.sa_call.specs.declared.call.Call.{Call}
use Rattle.sa_call.specs.declared.decls.ArrayDecl.{ArrayDecl}
use Rattle.sa_call.specs.declared.form.Gives.{Gives}
use Rattle.sa_call.specs.declared.form.Gives.TheVariants as gives
use Rattle.sa_call.specs.declared.operands.Operands.{Operands}
use Rattle.sa_call.specs.declared.operands.Operands.TheVariants as operands
use Rattle.sa_call.specs.Decls.{Declared, home_of, is_strings, is_strings_array}
use Rattle.sa_call.specs.Forms.{entry, descr_of}
use Rattle.sa_call.specs.Kinds.{lists_fit}
use Rattle.sa_call.specs.Limits.{most_weight, most_entries}
use Rattle.sa_call.specs.Parts.{Parts, literal_weight, weight_read}

-- an array is a strings array, or else a plain one, of this descriptor's
abbrev pub is_among : Bool → ℕ → ArrayDecl → Bool
is_among strings home a = a.home == home && (if strings then is_strings a.kind else not (is_strings a.kind))

-- the place of an array among those of its home that are strings arrays as it is, or plain as it is
abbrev pub index_at_home : Declared → ℕ → ℕ
index_at_home decls array = count_by (is_among (is_strings_array decls array) (home_of decls array)) (take array decls.arrays)

abbrev pub place_in : Declared → View → ℕ → Place
place_in decls v place = record { is_strings = is_strings_array decls v.array; array = index_at_home decls v.array; place = place }

-- a view as places of its home
abbrev pub places_in : Declared → View → List Place
places_in decls v = map (place_in decls v) (places_of v)

-- a view is on an array of this descriptor
abbrev pub operand_is_at : Declared → ℕ → Operand → Bool
operand_is_at decls d (operand.View v) = home_of decls v.array == d
operand_is_at decls d (operand.Literal items) = false

abbrev pub output_is_at : Declared → ℕ → Option View → Bool
output_is_at decls d None = false
output_is_at decls d (Some v) = home_of decls v.array == d

abbrev pub is_number : ℕ → Option ℕ → Bool
is_number d None = false
is_number d (Some n) = n == d

-- the call is on this descriptor: a view of it, its output, or its statistics or picture
abbrev pub is_named : Declared → Call → ℕ → Bool
is_named decls call d = (list_any (operand_is_at decls d) call.operands || output_is_at decls d call.out) || is_number d (descr_of call.op)

-- the descriptors of a call, rising, each once
abbrev pub homes_of : Declared → Call → List ℕ
homes_of decls call = filter (is_named decls call) (range_with_len 0 (length decls.descrs))

-- the places of a descriptor that the operands read, in order, and the items that were read there, a list for each view
abbrev pub places_told : Declared → ℕ → List Operand → List Place
places_told decls d [] = []
places_told decls d (operand.View v ∷ os) = (if home_of decls v.array == d then places_in decls v else []) ++ places_told decls d os
places_told decls d (operand.Literal items ∷ os) = places_told decls d os

abbrev pub items_told : Declared → ℕ → List Operand → List Items → List (Place × Item)
items_told decls d [] lists = []
items_told decls d (operand.Literal items ∷ os) lists = items_told decls d os lists
items_told decls d (operand.View v ∷ os) [] = []
items_told decls d (operand.View v ∷ os) (items ∷ lists) = (if home_of decls v.array == d then zip (places_in decls v) (items_of items) else []) ++ items_told decls d os lists

-- what a call that is too heavy read of a descriptor: the weight alone
abbrev pub weighed_by : Gives → List Place → ℕ → Part
weighed_by gives.Items places weight = Weighed places weight
weighed_by gives.Statistics places weight = Weighed places weight
weighed_by gives.Picture places weight = PictureWeighed weight

abbrev pub weighed_parts : Declared → Call → List ℕ → List ℕ → Parts
weighed_parts decls call [] weights = []
weighed_parts decls call (d ∷ ds) [] = []
weighed_parts decls call (d ∷ ds) (w ∷ ws) = (d, weighed_by (entry call.op).gives (places_told decls d call.operands) w) ∷ weighed_parts decls call ds ws

-- What was read, by descriptor. Of a call that is too heavy these are the weights that were read, a number for each of its descriptors.
abbrev pub parts_told : Declared → Call → Operands → List ℕ → Parts
parts_told decls call (operands.Items lists) weights = map (λ d. (d, Read (items_told decls d call.operands lists))) (homes_of decls call)
parts_told decls call (operands.Stats stats) weights = map (λ d. (d, Counted stats)) (homes_of decls call)
parts_told decls call (operands.Picture p) weights = map (λ d. (d, Pictured p.entries p.arena)) (homes_of decls call)
parts_told decls call (operands.Big weight) weights = weighed_parts decls call (homes_of decls call) weights

-- how many items each view names
abbrev pub view_counts : List Operand → List ℕ
view_counts [] = []
view_counts (operand.View v ∷ os) = v.count ∷ view_counts os
view_counts (operand.Literal items ∷ os) = view_counts os

-- what a call of this kind reads has a weight
abbrev pub has_weight : Gives → Bool
has_weight gives.Items = true
has_weight gives.Statistics = false
has_weight gives.Picture = true

-- Operands are those of a call: a list for each view, as long as it and of the kind of its array; statistics; a picture; or the weight of what weighs too much.
abbrev pub AreOperands : Declared → Call → Operands → Type 0
AreOperands decls call (operands.Items lists) = ((entry call.op).gives ≡ gives.Items) × (map count_of lists ≡ view_counts call.operands) × (lists_fit decls call.operands lists ≡ true)
AreOperands decls call (operands.Stats stats) = (entry call.op).gives ≡ gives.Statistics
AreOperands decls call (operands.Picture p) = ((entry call.op).gives ≡ gives.Picture) × (length p.entries ≤ most_entries)
AreOperands decls call (operands.Big weight) = (has_weight (entry call.op).gives ≡ true) × (most_weight < weight)

-- these are the weights of what was not read, since it weighs too much: a number for each descriptor, and with the literals together the weight
abbrev pub AreWeights : Declared → Call → Operands → List ℕ → Type 0
AreWeights decls call (operands.Items lists) weights = Unit {0}
AreWeights decls call (operands.Stats stats) weights = Unit {0}
AreWeights decls call (operands.Picture p) weights = Unit {0}
AreWeights decls call (operands.Big weight) weights = (length weights ≡ length (homes_of decls call)) × (sum weights + sum_by literal_weight call.operands ≡ weight)

-- what was read weighs no more than a call may
abbrev pub AreLight : Declared → Call → Operands → List ℕ → Type 0
AreLight decls call (operands.Items lists) weights = weight_read call (parts_told decls call (operands.Items lists) weights) ≤ most_weight
AreLight decls call (operands.Stats stats) weights = weight_read call (parts_told decls call (operands.Stats stats) weights) ≤ most_weight
AreLight decls call (operands.Picture p) weights = weight_read call (parts_told decls call (operands.Picture p) weights) ≤ most_weight
AreLight decls call (operands.Big weight) weights = Unit {0}
