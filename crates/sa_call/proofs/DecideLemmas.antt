-- What comes of a call by what was read is what comes of it by descriptor.
use Rattle.std.proofs.Common.{◌≡◌, ℕ, ◌+◌, ◌*◌, ◌<◌, eqb, nat_lt, Bool, true, ◌||◌, cond, List, [], ◌∷◌, length, map, Option, Some, refl, sym, ap, ◌∙◌, arith}
use Rattle.std.specs.List.{list_any, filter, count_by, sum, sum_by, range_with_len}
use Rattle.std.proofs.lemmas.Bool.{or_left, eq-eqb, lt-ltb, ltb-true}
use Rattle.std.proofs.lemmas.List.Sums.{sum_by-cons, length-filter}
use Rattle.sa_base.specs.Deeds.{Place, Part, Read, Counted, Pictured, part_at, picture_weight}
use Rattle.sa_base.specs.declared.stats.Stats.{Stats}
use Rattle.sa_plain.specs.Items.{count_of}
use Rattle.sa_plain.specs.declared.items.Items.{Items}
use Rattle.sa_view.specs.declared.view.View.{View}
use Rattle.sa_call.specs.declared.call.Call.{Call}
use Rattle.sa_call.specs.declared.call.Operand.{Operand}
use Rattle.sa_call.specs.declared.form.Gives.{Gives}
use Rattle.sa_call.specs.declared.form.Gives.TheVariants as gives
use Rattle.sa_call.specs.declared.operands.Operands.TheVariants as operands
use Rattle.sa_call.specs.declared.operands.Picture.{Picture}
use Rattle.sa_call.specs.declared.reply.Outcome.{Outcome}
use Rattle.sa_call.specs.declared.reply.Refusal.TheVariants as refusal
use Rattle.sa_call.specs.declared.reply.Reply.TheVariants as reply
use Rattle.sa_call.specs.Columns.{columns_read, columns_weight, outcome_read}
use Rattle.sa_call.specs.Decides.{decide, decided, done, outcome_on, refused_with, told_by}
use Rattle.sa_call.specs.Decls.{Declared, IsDeclared}
use Rattle.sa_call.specs.Forms.{entry, descr_of}
use Rattle.sa_call.specs.Parts.{Parts, part_weight, items_read, literal_weight, weight_read, columns_of}
use Rattle.sa_call.specs.Told.{homes_of, is_named, is_number, items_told, operand_is_at, output_is_at, parts_told, places_told, view_counts, weighed_by, weighed_parts}
use Rattle.sa_call.specs.Valid.{IsCall, is_descr_of}
use Rattle.sa_call.proofs.OpLemmas.{IsWhole, on-items, on-picture, on-statistics, whole-alone}
use Rattle.sa_call.proofs.PartLemmas.{any-declared, columns-told, once-among, part-there, sum_by-map, weight-told, count-once}

-- each descriptor with a view of a call is one of its descriptors, once
home-once : (decls : Declared) (call : Call) → IsDeclared decls → IsCall decls call → (d : ℕ) → list_any (operand_is_at decls d) call.operands ≡ true → count_by (eqb d) (homes_of decls call) ≡ 1
home-once decls call declared valid d any =
    let below = any-declared decls call.operands d declared valid.views any in
    let viewed = or_left (list_any (operand_is_at decls d) call.operands) (output_is_at decls d call.out) any in
    let named = or_left (list_any (operand_is_at decls d) call.operands || output_is_at decls d call.out) (is_number d (descr_of call.op)) viewed in
    once-among (is_named decls call) d (length decls.descrs) below named

-- lists that were read, told by descriptor
pub items-decide : (decls : Declared) (call : Call) (lists : List Items) (weights : List ℕ) → IsDeclared decls → IsCall decls call → (entry call.op).gives ≡ gives.Items → map count_of lists ≡ view_counts call.operands
    → outcome_read decls call (columns_read call.operands lists) ≡ decide decls call (parts_told decls call (operands.Items lists) weights)
items-decide decls call lists weights declared valid same counts =
    let homes = homes_of decls call in
    let told = λ (d : ℕ). Read (items_told decls d call.operands lists) in
    let parts = map (λ (d : ℕ). (d, told d)) homes in
    let columns = columns_read call.operands lists in
    let once = home-once decls call declared valid in
    let found : (d : ℕ) → list_any (operand_is_at decls d) call.operands ≡ true → items_read (part_at parts d) ≡ items_told decls d call.operands lists =
    λ d any. ap items_read (part-there told homes d (once d any)) in
    let read = columns-told decls (λ d. items_read (part_at parts d)) call.operands lists counts found in
    let weight : weight_read call parts ≡ columns_weight columns =
    ap (λ n. n + sum_by literal_weight call.operands) (sum_by-map (λ (p : ℕ × Part). part_weight p.1) (λ (d : ℕ). (d, told d)) homes)
    ∙ weight-told decls homes call.operands lists counts once in
    let heavy = refused_with refusal.TooMuch 0 in
    let none = (on-items call.op same).descr in
    let by_columns : decide decls call parts ≡ cond (nat_lt 1048576 (weight_read call parts)) heavy (outcome_on decls call (weight_read call parts) (columns_of decls (λ d. items_read (part_at parts d)) call.operands)) =
    ap (λ (o : Option ℕ). cond (nat_lt 1048576 (weight_read call parts)) heavy (decided decls call o parts)) none in
    sym (by_columns
    ∙ ap (λ w. cond (nat_lt 1048576 w) heavy (outcome_on decls call w (columns_of decls (λ d. items_read (part_at parts d)) call.operands))) weight
    ∙ ap (λ cs. cond (nat_lt 1048576 (columns_weight columns)) heavy (outcome_on decls call (columns_weight columns) cs)) read)

-- one part for each of some descriptors
abbrev each_part : Part → List ℕ → Parts
each_part part ds = map (λ d. (d, part)) ds

weight-each : (part : Part) (ds : List ℕ) → sum_by (λ (p : ℕ × Part). part_weight p.1) (each_part part ds) ≡ length ds * part_weight part
weight-each part [] = omega arith
weight-each part (d ∷ ds) =
    let cons = sum_by-cons (λ (p : ℕ × Part). part_weight p.1) (d, part) (each_part part ds) in
    let rest = weight-each part ds in
    omega arith

-- a descriptor that a call is on as a whole is the only one
alone : (part : Part) (d n : ℕ) → d < n → (part_at (each_part part (filter (eqb d) (range_with_len 0 n))) d ≡ part)
    × (sum_by (λ (p : ℕ × Part). part_weight p.1) (each_part part (filter (eqb d) (range_with_len 0 n))) ≡ part_weight part)
alone part d n below =
    let homes = filter (eqb d) (range_with_len 0 n) in
    let one : length homes ≡ 1 = length-filter (eqb d) (range_with_len 0 n) ∙ count-once d 0 n (omega arith) (omega arith) in
    let each = weight-each part homes in
    let product : length homes * part_weight part ≡ 1 * part_weight part = ap (λ m. m * part_weight part) one in
    (part-there (λ k. part) homes d (once-among (eqb d) d n below (eq-eqb d d refl)), omega arith)

-- the statistics or the picture of a descriptor that is too heavy, or is not
whole : (part : Part) (d n : ℕ) → d < n
    → cond (nat_lt 1048576 (sum_by (λ (p : ℕ × Part). part_weight p.1) (each_part part (filter (eqb d) (range_with_len 0 n))) + 0)) (refused_with refusal.TooMuch 0) (told_by (part_at (each_part part (filter (eqb d) (range_with_len 0 n))) d))
    ≡ cond (nat_lt 1048576 (part_weight part)) (refused_with refusal.TooMuch 0) (told_by part)
whole part d n below =
    let only = alone part d n below in
    let parts = each_part part (filter (eqb d) (range_with_len 0 n)) in
    let weight : sum_by (λ (p : ℕ × Part). part_weight p.1) parts + 0 ≡ part_weight part = let e = only.1 in omega arith in
    ap (λ w. cond (nat_lt 1048576 w) (refused_with refusal.TooMuch 0) (told_by (part_at parts d))) weight
    ∙ ap (λ (p : Part). cond (nat_lt 1048576 (part_weight part)) (refused_with refusal.TooMuch 0) (told_by p)) only.0

-- a call that is on a descriptor as a whole, and its one part
whole-part : (decls : Declared) (call : Call) (part : Part) → IsWhole call.op → IsCall decls call
    → decide decls call (each_part part (homes_of decls call)) ≡ cond (nat_lt 1048576 (part_weight part)) (refused_with refusal.TooMuch 0) (told_by part)
whole-part decls call part is valid =
    let none = whole-alone call.op call.operands call.out is valid.sorts valid.output in
    let d = is.number in
    let below : d < length decls.descrs = ltb-true d (length decls.descrs) (ap (is_descr_of decls) (sym is.descr) ∙ valid.descr) in
    let named : homes_of decls call ≡ filter (eqb d) (range_with_len 0 (length decls.descrs)) =
    ap (λ (p : ℕ → Bool). filter p (range_with_len 0 (length decls.descrs))) (λ i k. named-by (none.0 i) (none.1 i) (is.descr i) k) in
    let weighs = λ (ds : List ℕ) (os : List Operand). sum_by (λ (p : ℕ × Part). part_weight p.1) (each_part part ds) + sum_by literal_weight os in
    let decides : Option ℕ → List ℕ → List Operand → Outcome = λ o ds os. cond (nat_lt 1048576 (weighs ds os)) (refused_with refusal.TooMuch 0) (decided decls call o (each_part part ds)) in
    ap (λ o. decides o (homes_of decls call) call.operands) is.descr
    ∙ ap (λ ds. decides (Some d) ds call.operands) named
    ∙ ap (λ os. decides (Some d) (filter (eqb d) (range_with_len 0 (length decls.descrs))) os) none.0
    ∙ whole part d (length decls.descrs) below
  where
    named-by : (os : List Operand) (out : Option View) (o : Option ℕ) → ℕ → Bool
    named-by os out o k = (list_any (operand_is_at decls k) os || output_is_at decls k out) || is_number k o

-- statistics that were read
pub stats-decide : (decls : Declared) (call : Call) (stats : Stats) (weights : List ℕ) → (entry call.op).gives ≡ gives.Statistics → IsCall decls call
    → done (reply.Sized stats) ≡ decide decls call (parts_told decls call (operands.Stats stats) weights)
stats-decide decls call stats weights given valid = sym (whole-part decls call (Counted stats) (on-statistics call.op given) valid)

-- a picture that was read
pub picture-decide : (decls : Declared) (call : Call) (p : Picture) (weights : List ℕ) → (entry call.op).gives ≡ gives.Picture → IsCall decls call
    → cond (nat_lt 1048576 (picture_weight p.entries p.arena)) (refused_with refusal.TooMuch 0) (done (reply.Pictured p)) ≡ decide decls call (parts_told decls call (operands.Picture p) weights)
picture-decide decls call p weights given valid = sym (whole-part decls call (Pictured p.entries p.arena) (on-picture call.op given) valid)

-- the weights of what is too heavy
pub weight-by : (given : Gives) (places : List Place) (weight : ℕ) → part_weight (weighed_by given places weight) ≡ weight
weight-by gives.Items places weight = refl
weight-by gives.Statistics places weight = refl
weight-by gives.Picture places weight = refl

pub weight-weighed : (decls : Declared) (call : Call) (ds weights : List ℕ) → length weights ≡ length ds → sum_by (λ (p : ℕ × Part). part_weight p.1) (weighed_parts decls call ds weights) ≡ sum weights
weight-weighed decls call [] [] long = refl
weight-weighed decls call [] (w ∷ ws) long = absurd (omega arith)
weight-weighed decls call (d ∷ ds) [] long = absurd (omega arith)
weight-weighed decls call (d ∷ ds) (w ∷ ws) long =
    let part = weighed_by (entry call.op).gives (places_told decls d call.operands) w in
    let left = sum_by-cons (λ (p : ℕ × Part). part_weight p.1) (d, part) (weighed_parts decls call ds ws) in
    let right = sum_by-cons (λ x. x) w ws in
    let one = weight-by (entry call.op).gives (places_told decls d call.operands) w in
    let rest = weight-weighed decls call ds ws (omega arith) in
    omega arith

pub big-decide : (decls : Declared) (call : Call) (weight : ℕ) (weights : List ℕ) → 1048576 < weight → length weights ≡ length (homes_of decls call) → sum weights + sum_by literal_weight call.operands ≡ weight
    → refused_with refusal.TooMuch 0 ≡ decide decls call (parts_told decls call (operands.Big weight) weights)
big-decide decls call weight weights heavy long weighs =
    let sums = weight-weighed decls call (homes_of decls call) weights long in
    let over : nat_lt 1048576 (weight_read call (parts_told decls call (operands.Big weight) weights)) ≡ true = lt-ltb 1048576 (weight_read call (parts_told decls call (operands.Big weight) weights)) (omega arith) in
    rw over refl
