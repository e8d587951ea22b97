-- What a call takes of its descriptors, and what comes of it.
use Rattle.std.specs.Prelude.{ℕ, ◌+◌, ◌==◌, nat_lt, Bool, List, [], ◌∷◌, ◌++◌, map, sum_by, zip, if◌then◌else◌}
use Rattle.sa_base.specs.Items.{Item}
use Rattle.sa_base.specs.Deeds.{Place, Part, Read, Weighed, Counted, Pictured, PictureWeighed, picture_weight}
use Rattle.sa_alloc.specs.Layouts.{stats_of, entry_images, arena_image}
use Rattle.sa_plain.specs.Items.{item_weight}
use Rattle.sa_call.specs.declared.call.Operand.{Operand}
use Rattle.sa_call.specs.declared.call.Operand.TheVariants as operand
use Rattle.sa_call.specs.declared.call.Call.{Call}
use Rattle.sa_call.specs.declared.form.Gives.{Gives}
use Rattle.sa_call.specs.declared.form.Gives.TheVariants as gives
use Rattle.sa_call.specs.declared.reply.Outcome.{Outcome}
use Rattle.sa_call.specs.Decides.{decide}
use Rattle.sa_call.specs.Decls.{Declared, home_of}
use Rattle.sa_call.specs.Forms.{entry}
use Rattle.sa_call.specs.Limits.{most_weight}
use Rattle.sa_call.specs.Parts.{Parts, literal_weight}
use Rattle.sa_call.specs.Told.{homes_of, places_in, places_told}
use Rattle.sa_loop.specs.States.{State, World, view_items}

-- the places and the items of the operand views on arrays of a descriptor, not stretched
abbrev pub items_taken : Declared → State → ℕ → List Operand → List (Place × Item)
items_taken decls s d [] = []
items_taken decls s d (operand.View v ∷ os) = (if home_of decls v.array == d then zip (places_in decls v) (view_items decls s v) else []) ++ items_taken decls s d os
items_taken decls s d (operand.Literal items ∷ os) = items_taken decls s d os

-- the items of each view of the operands, in order
abbrev pub views_taken : Declared → World → List Operand → List (List Item)
views_taken decls w [] = []
views_taken decls w (operand.View v ∷ os) = view_items decls (w (home_of decls v.array)) v ∷ views_taken decls w os
views_taken decls w (operand.Literal items ∷ os) = views_taken decls w os

-- what these items weigh
abbrev pub weight_taken : Declared → State → ℕ → List Operand → ℕ
weight_taken decls s d [] = 0
weight_taken decls s d (operand.View v ∷ os) = (if home_of decls v.array == d then sum_by item_weight (view_items decls s v) else 0) + weight_taken decls s d os
weight_taken decls s d (operand.Literal items ∷ os) = weight_taken decls s d os

abbrev pub part_by : Gives → Declared → State → Call → Bool → ℕ → Part
part_by gives.Items decls s call heavy d = if heavy then Weighed (places_told decls d call.operands) (weight_taken decls s d call.operands) else Read (items_taken decls s d call.operands)
part_by gives.Statistics decls s call heavy d = Counted (stats_of s.layout)
part_by gives.Picture decls s call heavy d = if heavy then PictureWeighed (picture_weight (entry_images s.layout) (arena_image s.layout)) else Pictured (entry_images s.layout) (arena_image s.layout)

-- What a call takes of one of its descriptors, in a state of it: the items of the operand views there, the statistics, or the picture; where the call is too heavy the weight of these alone.
abbrev pub part : Declared → State → Call → Bool → ℕ → Part
part decls s call heavy d = part_by (entry call.op).gives decls s call heavy d

abbrev pub weight_by : Gives → Declared → State → Call → ℕ → ℕ
weight_by gives.Items decls s call d = weight_taken decls s d call.operands
weight_by gives.Statistics decls s call d = 0
weight_by gives.Picture decls s call d = picture_weight (entry_images s.layout) (arena_image s.layout)

-- what this weighs
abbrev pub weight : Declared → State → Call → ℕ → ℕ
weight decls s call d = weight_by (entry call.op).gives decls s call d

-- the weights of what a call takes, a number for each of its descriptors
abbrev pub weights_in : Declared → World → Call → List ℕ
weights_in decls w call = map (λ d. weight decls (w d) call d) (homes_of decls call)

-- what the operands of a call weigh together
abbrev pub call_weight : Declared → World → Call → ℕ
call_weight decls w call = sum_by (λ d. weight decls (w d) call d) (homes_of decls call) + sum_by literal_weight call.operands

-- A call is too heavy where its operands weigh more than a call may.
abbrev pub is_heavy : Declared → World → Call → Bool
is_heavy decls w call = nat_lt most_weight (call_weight decls w call)

-- what a call takes of each of its descriptors
abbrev pub parts_of : Declared → World → Call → Parts
parts_of decls w call = map (λ d. (d, part decls (w d) call (is_heavy decls w call) d)) (homes_of decls call)

-- what comes of a call in a world
abbrev pub outcome_in : Declared → World → Call → Outcome
outcome_in decls w call = decide decls call (parts_of decls w call)
