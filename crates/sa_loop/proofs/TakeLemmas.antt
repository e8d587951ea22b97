-- What was read for a call is what it takes of the world that the contents show.
use Rattle.std.proofs.Common.{◌≡◌, ◌<◌, ◌≤◌, ◌+◌, ℕ, eqb, Bool, true, false, ◌||◌, inl, inr, List, [], ◌∷◌, ◌++◌, length, map, replicate, Option, Some, None, refl, sym, ap, ◌∙◌, subst, arith}
use Rattle.std.specs.List.{AllByRecursion, list_all, list_any, filter, sum, sum_by, zip, range_with_len}
use Rattle.std.specs.Option.{is_some}
use Rattle.std.proofs.lemmas.Bool.{and_parts, eq-eqb, false≢true, le-ltb, lt-ltb, ltb-true, or_left, or_right}
use Rattle.std.proofs.lemmas.Bool.Decides.{eqb_tells}
use Rattle.std.proofs.lemmas.List.{length-map}
use Rattle.std.proofs.lemmas.List.FromFn.{length-map-range_with_len}
use Rattle.std.proofs.lemmas.List.Sums.{length-filter, sum-map, sum_by-cons}
use Rattle.sa_base.specs.Items.{Item}
use Rattle.sa_base.specs.Deeds.{Place, Part, Read, Counted, Pictured, picture_weight}
use Rattle.sa_view.specs.Views.{place_at}
use Rattle.sa_view.specs.declared.view.View.{View}
use Rattle.sa_alloc.specs.Layouts.{Layout, stats_of, entry_image, entry_images, arena_image}
use Rattle.sa_plain.specs.Items.{count_of, items_of}
use Rattle.sa_plain.specs.declared.items.Items.{Items}
use Rattle.sa_call.specs.declared.call.Call.{Call}
use Rattle.sa_call.specs.declared.call.Op.{Op}
use Rattle.sa_call.specs.declared.call.Operand.{Operand}
use Rattle.sa_call.specs.declared.call.Operand.TheVariants as operand
use Rattle.sa_call.specs.declared.form.Gives.{Gives}
use Rattle.sa_call.specs.declared.form.Gives.TheVariants as gives
use Rattle.sa_call.specs.declared.operands.Operands.{Operands}
use Rattle.sa_call.specs.declared.operands.Operands.TheVariants as operands
use Rattle.sa_call.specs.Decls.{Declared, IsDeclared, home_of}
use Rattle.sa_call.specs.Forms.{entry, descr_of}
use Rattle.sa_call.specs.Kinds.{lists_fit}
use Rattle.sa_call.specs.Parts.{Parts, literal_weight, part_weight, weight_read}
use Rattle.sa_call.specs.Told.{has_weight, homes_of, is_named, is_number, items_told, operand_is_at, output_is_at, parts_told, places_in, places_told, view_counts, weighed_by, weighed_parts}
use Rattle.sa_call.specs.Valid.{IsCall, IsLiteralOperand, is_descr_of, is_operand_of, is_view_of}
use Rattle.sa_call.proofs.OpLemmas.{few-operands, on-none, on-whole, whole-alone}
use Rattle.sa_call.proofs.PartLemmas.{count-once, length-items, sum_by-map}
use Rattle.sa_hall.specs.Contents.{Contents}
use Rattle.sa_loop.specs.Held.{AreHeld, AreShort, CanTake, HasShape, IsShort, IsTaken, IsTakenWhole}
use Rattle.sa_loop.specs.Runs.{world_of}
use Rattle.sa_loop.specs.States.{State, World, view_items}
use Rattle.sa_loop.specs.Takes.{call_weight, is_heavy, items_taken, part, part_by, parts_of, views_taken, weight, weight_by, weights_in}
use Rattle.sa_loop.proofs.PartLemmas.{parts-tell, view-many}
use Rattle.sa_loop.proofs.SlotLemmas.{small-lengths}
use Rattle.sa_loop.proofs.WorldLemmas.{view-known}

-- the operands of a valid call are held, and short

held-operands : (decls : Declared) (held : ℕ → Bool) (holds : ℕ → Contents) (os : List Operand) → IsDeclared decls → list_all (is_operand_of decls) os ≡ true
    → ((d : ℕ) → list_any (operand_is_at decls d) os ≡ true → (held d ≡ true) × HasShape decls d (holds d)) → AreHeld decls held holds os
held-operands decls held holds [] declared views named = tt
held-operands decls held holds (operand.Literal items ∷ os) declared views named = (tt, held-operands decls held holds os declared views named)
held-operands decls held holds (operand.View v ∷ os) declared views named =
    let parts = and_parts (is_view_of decls v) (list_all (is_operand_of decls) os) views in
    let known = view-known decls v parts.0 in
    let h = home_of decls v.array in
    let here = named h (or_left (eqb h h) (list_any (operand_is_at decls h) os) (eq-eqb h h refl)) in (
      record { home = here.0; inside = record { declared = declared; array = known.0; view = known.1; shape = here.1 } },
      held-operands decls held holds os declared parts.1 (λ d any. named d (or_right (eqb h d) (list_any (operand_is_at decls d) os) any)),
    )

pub are-held : (decls : Declared) (held : ℕ → Bool) (holds : ℕ → Contents) (call : Call) → CanTake decls held holds call → AreHeld decls held holds call.operands
are-held decls held holds call can =
    held-operands decls held holds call.operands can.declared can.valid.views
    (λ d any.
    let viewed = or_left (list_any (operand_is_at decls d) call.operands) (output_is_at decls d call.out) any in
    let named = or_left (list_any (operand_is_at decls d) call.operands || output_is_at decls d call.out) (is_number d (descr_of call.op)) viewed in
    (can.homes d named, can.shapes d named))

short-literals : (os : List Operand) → AllByRecursion IsLiteralOperand os → AllByRecursion IsShort os
short-literals [] literals = tt
short-literals (operand.View v ∷ os) literals = (tt, short-literals os literals.1)
short-literals (operand.Literal items ∷ os) literals = (literals.0.few, short-literals os literals.1)

pub are-short : (decls : Declared) (call : Call) → descr_of call.op ≡ None → IsCall decls call → AreShort call.operands
are-short decls call none valid =
    let few = few-operands call.op call.operands (on-none call.op none) valid.sorts in
    record { few = omega arith; short = short-literals call.operands valid.literals }

-- what a call gives

pub given-same : (o : Op) → descr_of o ≡ None → (entry o).gives ≡ gives.Items
given-same o none = (on-none o none).gives

pub given-statistics : (o : Op) → is_some (descr_of o) ≡ true → ((entry o).gives ≡ gives.Picture → ⊥) → (entry o).gives ≡ gives.Statistics
given-statistics o some other = go (descr_of o) refl some
  where
    go : (n : Option ℕ) → descr_of o ≡ n → is_some n ≡ true → (entry o).gives ≡ gives.Statistics
    go None at some = absurd (false≢true some)
    go (Some n) at some = elim (on-whole o n at).gives [ inl e ↦ e | inr e ↦ absurd (other e) ]

-- the lists that were read of a world

counts-taken : (decls : Declared) (w : World) (os : List Operand) → map length (views_taken decls w os) ≡ view_counts os
counts-taken decls w [] = refl
counts-taken decls w (operand.Literal items ∷ os) = counts-taken decls w os
counts-taken decls w (operand.View v ∷ os) =
    ap (λ n. n ∷ map length (views_taken decls w os)) (view-many decls (w (home_of decls v.array)) v ∙ length-map-range_with_len (place_at v) 0 v.count)
    ∙ ap (λ ns. v.count ∷ ns) (counts-taken decls w os)

counts-items : (lists : List Items) → map count_of lists ≡ map length (map items_of lists)
counts-items [] = refl
counts-items (l ∷ lists) = ap (λ n. n ∷ map count_of lists) (sym (length-items l)) ∙ ap (λ ns. length (items_of l) ∷ ns) (counts-items lists)

items-same : (decls : Declared) (w : World) (d : ℕ) (os : List Operand) (lists : List Items) → map items_of lists ≡ views_taken decls w os → items_told decls d os lists ≡ items_taken decls (w d) d os
items-same decls w d [] lists read = refl
items-same decls w d (operand.Literal items ∷ os) lists read = items-same decls w d os lists read
items-same decls w d (operand.View v ∷ os) [] read = cc
items-same decls w d (operand.View v ∷ os) (l ∷ lists) read =
    let h = home_of decls v.array in
    let head : items_of l ≡ view_items decls (w h) v = cc in
    let tail : map items_of lists ≡ views_taken decls w os = cc in
    let rest = items-same decls w d os lists tail in
    elim (eqb_tells h d) [
      | inl t ↦
          let here : items_of l ≡ view_items decls (w d) v = head ∙ ap (λ k. view_items decls (w k) v) t.1 in
          rw t.0 (ap (λ xs. zip (places_in decls v) xs ++ items_told decls d os lists) here ∙ ap (λ xs. zip (places_in decls v) (view_items decls (w d) v) ++ xs) rest)
      | inr f ↦ rw f.0 rest
    ]

-- the parts of a call that reads items

-- a part for each of some descriptors
abbrev each : (ℕ → Part) → List ℕ → Parts
each f ds = map (λ d. (d, f d)) ds

weighed-one : (g : Gives) (decls : Declared) (s : State) (call : Call) (d : ℕ) → (g ≡ gives.Statistics → ⊥) → weighed_by g (places_told decls d call.operands) (weight_by g decls s call d) ≡ part_by g decls s call true d
weighed-one gives.Items decls s call d other = refl
weighed-one gives.Statistics decls s call d other = absurd (other refl)
weighed-one gives.Picture decls s call d other = refl

weighed-same : (decls : Declared) (w : World) (call : Call) (ds : List ℕ) → ((entry call.op).gives ≡ gives.Statistics → ⊥)
    → weighed_parts decls call ds (map (λ d. weight decls (w d) call d) ds) ≡ each (λ d. part decls (w d) call true d) ds
weighed-same decls w call [] other = refl
weighed-same decls w call (d ∷ ds) other =
    ap (λ (p : Part). (d, p) ∷ weighed_parts decls call ds (map (λ k. weight decls (w k) call k) ds)) (weighed-one (entry call.op).gives decls (w d) call d other)
    ∙ ap (λ (ps : Parts). (d, part decls (w d) call true d) ∷ ps) (weighed-same decls w call ds other)

read-same : (g : Gives) (decls : Declared) (w : World) (call : Call) (lists : List Items) (d : ℕ) → map items_of lists ≡ views_taken decls w call.operands → g ≡ gives.Items → Read (items_told decls d call.operands lists) ≡ part_by g decls (w d) call false d
read-same gives.Items decls w call lists d read same = ap (λ items. Read items) (items-same decls w d call.operands lists read)
read-same gives.Statistics decls w call lists d read same = cc
read-same gives.Picture decls w call lists d read same = cc

reads-same : (decls : Declared) (w : World) (call : Call) (lists : List Items) (ds : List ℕ) → map items_of lists ≡ views_taken decls w call.operands → (entry call.op).gives ≡ gives.Items
    → each (λ d. Read (items_told decls d call.operands lists)) ds ≡ each (λ d. part decls (w d) call false d) ds
reads-same decls w call lists ds read same = ap (λ (f : ℕ → Part). each f ds) (λ i d. read-same (entry call.op).gives decls w call lists d read same i)

weight-all : (decls : Declared) (w : World) (call : Call) → sum (weights_in decls w call) + sum_by literal_weight call.operands ≡ call_weight decls w call
weight-all decls w call = ap (λ n. n + sum_by literal_weight call.operands) (sum-map (λ d. weight decls (w d) call d) (homes_of decls call))

-- what is taken of a world weighs what its call weighs there
parts-weigh : (decls : Declared) (w : World) (call : Call) → weight_read call (parts_of decls w call) ≡ call_weight decls w call
parts-weigh decls w call =
    let one : ℕ → ℕ × Part = λ d. (d, part decls (w d) call (is_heavy decls w call) d) in
    ap (λ n. n + sum_by literal_weight call.operands)
    (sum_by-map (λ (p : ℕ × Part). part_weight p.1) one (homes_of decls call)
    ∙ ap (λ (f : ℕ → ℕ). sum_by f (homes_of decls call)) (λ i d. parts-tell decls (w d) call (is_heavy decls w call) d i))

-- so parts that were told of a call that is not too heavy weigh no more than a call may
told-light : (decls : Declared) (w : World) (call : Call) (parts : Parts) → parts ≡ parts_of decls w call → call_weight decls w call ≤ 1048576 → weight_read call parts ≤ 1048576
told-light decls w call parts are light =
    let weighs = ap (weight_read call) are ∙ parts-weigh decls w call in
    omega arith

-- what is not statistics has a weight
weighs : (g : Gives) → (g ≡ gives.Statistics → ⊥) → has_weight g ≡ true
weighs gives.Items other = refl
weighs gives.Statistics other = absurd (other refl)
weighs gives.Picture other = refl

-- what weighs too much is taken as its weights
pub taken-heavy : (decls : Declared) (holds : ℕ → Contents) (call : Call) (weights : List ℕ) (total : ℕ) → ((entry call.op).gives ≡ gives.Statistics → ⊥) → weights ≡ weights_in decls (world_of holds) call
    → sum weights + sum_by literal_weight call.operands ≡ total → 1048576 < total → IsTaken decls holds call (operands.Big total) weights
taken-heavy decls holds call weights total other are sums heavy =
    let w = world_of holds in
    let homes = homes_of decls call in
    let all : call_weight decls w call ≡ total = sym (weight-all decls w call) ∙ ap (λ (ws : List ℕ). sum ws + sum_by literal_weight call.operands) (sym are) ∙ sums in
    let over : is_heavy decls w call ≡ true = lt-ltb 1048576 (call_weight decls w call) (omega arith) in
    record {
      are_operands = (weighs (entry call.op).gives other, heavy);
      are_weights = (ap length are ∙ length-map homes (λ d. weight decls (w d) call d), sums);
      are_light = tt;
      parts =
          ap (weighed_parts decls call homes) are
          ∙ weighed-same decls w call homes other
          ∙ ap (λ (b : Bool). each (λ d. part decls (w d) call b d) homes) (sym over);
    }

-- what does not is taken as its items
pub taken-light : (decls : Declared) (holds : ℕ → Contents) (call : Call) (weights : List ℕ) (total : ℕ) (lists : List Items) (none : List ℕ) → (entry call.op).gives ≡ gives.Items → weights ≡ weights_in decls (world_of holds) call
    → sum weights + sum_by literal_weight call.operands ≡ total → total ≤ 1048576 → map items_of lists ≡ views_taken decls (world_of holds) call.operands → lists_fit decls call.operands lists ≡ true → IsTaken decls holds call (operands.Items lists) none
taken-light decls holds call weights total lists none same are sums light read fit =
    let w = world_of holds in
    let homes = homes_of decls call in
    let all : call_weight decls w call ≡ total = sym (weight-all decls w call) ∙ ap (λ (ws : List ℕ). sum ws + sum_by literal_weight call.operands) (sym are) ∙ sums in
    let under : is_heavy decls w call ≡ false = le-ltb 1048576 (call_weight decls w call) (omega arith) in
    let parts : parts_told decls call (operands.Items lists) none ≡ parts_of decls w call =
    reads-same decls w call lists homes read same
    ∙ ap (λ (b : Bool). each (λ d. part decls (w d) call b d) homes) (sym under) in
    record {
      are_operands = (same, counts-items lists ∙ (ap (map length) read ∙ counts-taken decls w call.operands), fit);
      are_weights = tt;
      are_light = told-light decls w call (parts_told decls call (operands.Items lists) none) parts (omega arith);
      parts = parts;
    }

-- a call on a whole descriptor

pub named-whole : (decls : Declared) (call : Call) (number : ℕ) → descr_of call.op ≡ Some number → is_named decls call number ≡ true
named-whole decls call number is =
    or_right (list_any (operand_is_at decls number) call.operands || output_is_at decls number call.out) (is_number number (descr_of call.op))
    (ap (is_number number) is ∙ eq-eqb number number refl)

same-numbers : (d : ℕ) (xs : List ℕ) → filter (eqb d) xs ≡ replicate (length (filter (eqb d) xs)) d
same-numbers d [] = refl
same-numbers d (x ∷ xs) =
    elim (eqb_tells d x) [
      | inl t ↦ rw t.0 (ap (λ k. k ∷ filter (eqb d) xs) (sym t.1) ∙ ap (λ ys. d ∷ ys) (same-numbers d xs))
      | inr f ↦ rw f.0 (same-numbers d xs)
    ]

-- it is the only one
alone : (d n : ℕ) → d < n → filter (eqb d) (range_with_len 0 n) ≡ d ∷ []
alone d n below =
    same-numbers d (range_with_len 0 n)
    ∙ ap (λ k. replicate k d) (length-filter (eqb d) (range_with_len 0 n) ∙ count-once d 0 n (omega arith) (omega arith))

-- the only home, and no operands
pub home-alone : (decls : Declared) (call : Call) (number : ℕ) → IsCall decls call → descr_of call.op ≡ Some number → (homes_of decls call ≡ number ∷ []) × (call.operands ≡ [])
home-alone decls call number valid at =
    let none = whole-alone call.op call.operands call.out (on-whole call.op number at) valid.sorts valid.output in
    let below = ltb-true number (length decls.descrs) (ap (is_descr_of decls) (sym at) ∙ valid.descr) in
    (ap (λ (p : ℕ → Bool). filter p (range_with_len 0 (length decls.descrs))) (λ i k. named-by (none.0 i) (none.1 i) (at i) k) ∙ alone number (length decls.descrs) below, none.0)
  where
    named-by : (os : List Operand) (out : Option View) (o : Option ℕ) → ℕ → Bool
    named-by os out o k = (list_any (operand_is_at decls k) os || output_is_at decls k out) || is_number k o

part-counted : (g : Gives) (decls : Declared) (s : State) (call : Call) (heavy : Bool) (d : ℕ) → g ≡ gives.Statistics → part_by g decls s call heavy d ≡ Counted (stats_of s.layout)
part-counted gives.Items decls s call heavy d is = cc
part-counted gives.Statistics decls s call heavy d is = refl
part-counted gives.Picture decls s call heavy d is = cc

part-pictured : (g : Gives) (decls : Declared) (s : State) (call : Call) (d : ℕ) → g ≡ gives.Picture → (part_by g decls s call false d ≡ Pictured (entry_images s.layout) (arena_image s.layout)) × (weight_by g decls s call d ≡ picture_weight (entry_images s.layout) (arena_image s.layout))
part-pictured gives.Items decls s call d is = cc
part-pictured gives.Statistics decls s call d is = cc
part-pictured gives.Picture decls s call d is = (refl, refl)

-- such a call weighs what is taken of the descriptor
weight-alone : (decls : Declared) (w : World) (call : Call) (number : ℕ) → IsCall decls call → descr_of call.op ≡ Some number → call_weight decls w call ≡ weight decls (w number) call number
weight-alone decls w call number valid is =
    let one = home-alone decls call number valid is in
    let weigh : ℕ → ℕ = λ d. weight decls (w d) call d in
    let cons = sum_by-cons weigh number [] in
    ap (λ ds. sum_by weigh ds + sum_by literal_weight call.operands) one.0 ∙ ap (λ os. sum_by weigh (number ∷ []) + sum_by literal_weight os) one.1 ∙ omega arith

-- a descriptor has few entries
few-entries : (decls : Declared) (d : ℕ) (c : Contents) → IsDeclared decls → HasShape decls d c → length (entry_images c.layout) ≤ 8192
few-entries decls d c declared shape =
    let many = length-map-range_with_len (entry_image c.layout) 0 (length c.layout.states) in
    let small = (small-lengths decls d declared).entries in
    let states = shape.states in
    let sums = ap sum shape.lengths in
    omega arith

pub taken-whole : (decls : Declared) (held : ℕ → Bool) (holds : ℕ → Contents) (call : Call) (number : ℕ) (l : Layout) (read : Operands) (weights : List ℕ) → CanTake decls held holds call → descr_of call.op ≡ Some number → l ≡ (holds number).layout
    → IsTakenWhole (entry call.op).gives l read weights → IsTaken decls holds call read weights
taken-whole decls held holds call number l (operands.Items lists) weights can is at whole = absurd whole
taken-whole decls held holds call number l (operands.Stats stats) weights can is at whole =
    let w = world_of holds in
    let one = home-alone decls call number can.valid is in
    let heavy = is_heavy decls w call in
    let counted = part-counted (entry call.op).gives decls (w number) call heavy number whole.0 in
    let nothing : call_weight decls w call ≡ 0 = weight-alone decls w call number can.valid is ∙ sym (parts-tell decls (w number) call heavy number) ∙ ap part_weight counted in
    let parts : parts_told decls call (operands.Stats stats) weights ≡ parts_of decls w call =
    ap (λ ds. each (λ d. Counted stats) ds) one.0
    ∙ ap (λ (p : Part). (number, p) ∷ []) (ap (λ x. Counted x) (whole.1 ∙ ap stats_of at) ∙ sym counted)
    ∙ sym (ap (λ ds. each (λ d. part decls (w d) call heavy d) ds) one.0) in
    record {
      are_operands = whole.0;
      are_weights = tt;
      are_light = told-light decls w call (parts_told decls call (operands.Stats stats) weights) parts (omega arith);
      parts = parts;
    }
taken-whole decls held holds call number l (operands.Picture p) weights can is at whole =
    let w = world_of holds in
    let one = home-alone decls call number can.valid is in
    let pictured = part-pictured (entry call.op).gives decls (w number) call number whole.0 in
    let entries = whole.1 ∙ ap entry_images at in
    let arena = whole.2 ∙ ap arena_image at in
    let most : picture_weight (entry_images (holds number).layout) (arena_image (holds number).layout) ≤ 1048576 = subst (λ (x : Layout). picture_weight (entry_images x) (arena_image x) ≤ 1048576) at whole.3 in
    let all = weight-alone decls w call number can.valid is ∙ pictured.1 in
    let under : is_heavy decls w call ≡ false = le-ltb 1048576 (call_weight decls w call) (omega arith) in
    let long = few-entries decls number (holds number) can.declared (can.shapes number (named-whole decls call number is)) in
    let parts : parts_told decls call (operands.Picture p) weights ≡ parts_of decls w call =
    ap (λ ds. each (λ d. Pictured p.entries p.arena) ds) one.0
    ∙ ap (λ es. (number, Pictured es p.arena) ∷ []) entries
    ∙ ap (λ bs. (number, Pictured (entry_images (holds number).layout) bs) ∷ []) arena
    ∙ ap (λ (q : Part). (number, q) ∷ []) (sym pictured.0)
    ∙ sym (ap (λ ds. each (λ d. part decls (w d) call false d) ds) one.0)
    ∙ ap (λ (b : Bool). each (λ d. part decls (w d) call b d) (homes_of decls call)) (sym under) in
    record {
      are_operands = (whole.0, (let same = ap length entries in omega arith));
      are_weights = tt;
      are_light = told-light decls w call (parts_told decls call (operands.Picture p) weights) parts (omega arith);
      parts = parts;
    }
taken-whole decls held holds call number l (operands.Big total) weights can is at whole =
    let w = world_of holds in
    let one = home-alone decls call number can.valid is in
    let pictured = part-pictured (entry call.op).gives decls (w number) call number whole.0 in
    let weighs : total ≡ weight decls (w number) call number = whole.1 ∙ ap (λ (x : Layout). picture_weight (entry_images x) (arena_image x)) at ∙ sym pictured.1 in
    let other : (entry call.op).gives ≡ gives.Statistics → ⊥ = λ statistics. let picture = whole.0 in cc in
    let are : weights ≡ weights_in decls w call = whole.2 ∙ ap (λ n. n ∷ []) weighs ∙ sym (ap (λ ds. map (λ d. weight decls (w d) call d) ds) one.0) in
    let sums : sum weights + sum_by literal_weight call.operands ≡ total =
    ap (λ ws. sum ws + sum_by literal_weight call.operands) are ∙ weight-all decls w call ∙ weight-alone decls w call number can.valid is ∙ sym weighs in
    taken-heavy decls holds call weights total other are sums whole.3
