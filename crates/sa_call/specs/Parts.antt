-- What a call takes of its descriptors, as plain data, and its weight.
use Rattle.std.specs.Prelude.{ℕ, ◌+◌, ◌==◌, List, [], ◌∷◌, take, drop, map, sum_by, if◌then◌else◌}
use Rattle.sa_base.specs.Items.{Item}
use Rattle.sa_base.specs.Deeds.{Place, Part, Read, Weighed, Counted, Pictured, PictureWeighed, picture_weight}
use Rattle.sa_plain.specs.Items.{items_of, items_weight, item_weight}
use Rattle.sa_call.specs.declared.call.Operand.{Operand}
use Rattle.sa_call.specs.declared.call.Operand.TheVariants as operand
use Rattle.sa_call.specs.declared.call.Call.{Call}
use Rattle.sa_call.specs.Decls.{Declared, home_of}

-- what was read of each descriptor, by its number
abbrev pub Parts : Type 0
Parts = List (ℕ × Part)

abbrev pub items_read : Part → List (Place × Item)
items_read (Read items) = items
items_read (Weighed places weight) = []
items_read (Counted stats) = []
items_read (Pictured entries arena) = []
items_read (PictureWeighed weight) = []

-- the weight of what was read of a descriptor; statistics have none
abbrev pub part_weight : Part → ℕ
part_weight (Read items) = sum_by (λ i. item_weight i.1) items
part_weight (Weighed places weight) = weight
part_weight (Counted stats) = 0
part_weight (Pictured entries arena) = picture_weight entries arena
part_weight (PictureWeighed weight) = weight

-- the weight of an operand that is a literal
abbrev pub literal_weight : Operand → ℕ
literal_weight (operand.View v) = 0
literal_weight (operand.Literal items) = items_weight items

-- the weight of the operands: of what was read and of the literals, as they are
abbrev pub weight_read : Call → Parts → ℕ
weight_read call parts = sum_by (λ p. part_weight p.1) parts + sum_by literal_weight call.operands

-- what is left of the items read of each descriptor, behind this many of one
abbrev pub behind : ℕ → ℕ → (ℕ → List (Place × Item)) → ℕ → List (Place × Item)
behind home count found d = if home == d then drop count (found d) else found d

-- the items of each operand, in order: those of a literal, or those of a view, which are the next that were read of its home
abbrev pub columns_of : Declared → (ℕ → List (Place × Item)) → List Operand → List (List Item)
columns_of decls found [] = []
columns_of decls found (operand.View v ∷ os) = map (λ i. i.1) (take v.count (found (home_of decls v.array))) ∷ columns_of decls (behind (home_of decls v.array) v.count found) os
columns_of decls found (operand.Literal items ∷ os) = items_of items ∷ columns_of decls found os
