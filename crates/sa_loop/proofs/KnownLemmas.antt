-- What an act keeps tells what its call takes of contents in which its parts, read again, are the same.
use Rattle.std.proofs.Common.{◌≡◌, ◌≤◌, ◌<◌, ◌+◌, ℕ, zero, suc, eqb, Bool, true, false, inl, inr, cond, nat_lt, List, [], ◌∷◌, length, map, sum, refl, sym, ap, ◌∙◌, subst, arith}
use Rattle.std.specs.Coded.{Coded-set, coded_bool, coded_list, coded_ℕ}
use Rattle.std.specs.List.{AllByRecursion, count_by, filter, list_all, list_any, range_with_len, sum_by}
use Rattle.std.proofs.Math.Logic.{∥∥₁_elim}
use Rattle.std.proofs.lemmas.Bool.{eq-eqb, eqb-false, eqb-true, le-ltb, lt-ltb, ne_eqb, or_cases, or_left, or_right, false≢true}
use Rattle.std.proofs.lemmas.List.Sums.{sum_by-cons}
use Rattle.std.proofs.lemmas.Simd.{map-map}
use Rattle.sa_base.specs.Items.{Item}
use Rattle.sa_base.specs.Deeds.{Place, Part, Read, Weighed, Counted, Pictured, PictureWeighed, part_at}
use Rattle.sa_base.specs.declared.stats.Stats.{Stats}
use Rattle.sa_plain.specs.Items.{count_of}
use Rattle.sa_call.specs.declared.call.Call.{Call}
use Rattle.sa_call.specs.declared.form.Gives.{Gives}
use Rattle.sa_call.specs.declared.form.Gives.TheVariants as gives
use Rattle.sa_call.specs.declared.operands.Operands.{Operands}
use Rattle.sa_call.specs.declared.operands.Operands.TheVariants as operands
use Rattle.sa_call.specs.Decls.{Declared, IsDeclared}
use Rattle.sa_call.specs.Forms.{entry}
use Rattle.sa_call.specs.Limits.{most_weight}
use Rattle.sa_call.specs.Parts.{Parts, literal_weight, part_weight, weight_read}
use Rattle.sa_call.specs.Told.{has_weight, homes_of, is_named, items_told, parts_told, places_told, view_counts, weighed_by, weighed_parts, AreLight, AreOperands, AreWeights}
use Rattle.sa_call.specs.Valid.{is_operand_of}
use Rattle.sa_call.proofs.DecideLemmas.{weight-by, weight-weighed}
use Rattle.sa_call.proofs.PartLemmas.{once-among, part-there, sum_by-map}
use Rattle.sa_hall.specs.Contents.{Contents, item_at, reread}
use Rattle.sa_loop.specs.Held.{HasShape}
use Rattle.sa_loop.specs.Runs.{shown, world_of}
use Rattle.sa_loop.specs.States.{World}
use Rattle.sa_loop.specs.Takes.{call_weight, is_heavy, part, part_by, parts_of}
use Rattle.sa_loop.proofs.PartLemmas.{parts-tell}
use Rattle.sa_loop.proofs.RereadLemmas.{places-of-items, taken-there, there, weight-there}

-- the kind of a call, by what was read for it

abbrev pub is_same : Gives → Bool
is_same gives.Items = true
is_same gives.Statistics = false
is_same gives.Picture = false

abbrev pub is_statistics : Gives → Bool
is_statistics gives.Items = false
is_statistics gives.Statistics = true
is_statistics gives.Picture = false

abbrev pub is_picture : Gives → Bool
is_picture gives.Items = false
is_picture gives.Statistics = false
is_picture gives.Picture = true

abbrev pub is_read_by : Operands → Gives → Bool
is_read_by (operands.Items lists) g = is_same g
is_read_by (operands.Stats stats) g = is_statistics g
is_read_by (operands.Picture p) g = is_picture g
is_read_by (operands.Big total) g = has_weight g

-- the counts of the lists that were read, and those that the call asks for

abbrev pub counts_read : Operands → List ℕ
counts_read (operands.Items lists) = map count_of lists
counts_read (operands.Stats stats) = []
counts_read (operands.Picture p) = []
counts_read (operands.Big total) = []

abbrev pub counts_asked : Call → Operands → List ℕ
counts_asked call (operands.Items lists) = view_counts call.operands
counts_asked call (operands.Stats stats) = []
counts_asked call (operands.Picture p) = []
counts_asked call (operands.Big total) = []

abbrev pub is_big : Operands → Bool
is_big (operands.Items lists) = false
is_big (operands.Stats stats) = false
is_big (operands.Picture p) = false
is_big (operands.Big total) = true

abbrev pub weights_asked : Declared → Call → Operands → List ℕ → ℕ
weights_asked decls call (operands.Items lists) weights = length weights
weights_asked decls call (operands.Stats stats) weights = length weights
weights_asked decls call (operands.Picture p) weights = length weights
weights_asked decls call (operands.Big total) weights = length (homes_of decls call)

-- what is known of what was read, as equations
pub record IsKnown (decls : Declared) (call : Call) (read : Operands) (weights : List ℕ) : Type 0 where
  pub kind : is_read_by read (entry call.op).gives ≡ true
  pub counts : counts_read read ≡ counts_asked call read
  pub many : length weights ≡ weights_asked decls call read weights
  pub heavy : nat_lt most_weight (weight_read call (parts_told decls call read weights)) ≡ is_big read

kind-of : (decls : Declared) (call : Call) (read : Operands) → AreOperands decls call read → is_read_by read (entry call.op).gives ≡ true
kind-of decls call (operands.Items lists) are = ap is_same are.0
kind-of decls call (operands.Stats stats) are = ap is_statistics are
kind-of decls call (operands.Picture p) are = ap is_picture are.0
kind-of decls call (operands.Big total) are = are.0

counts-of : (decls : Declared) (call : Call) (read : Operands) → AreOperands decls call read → counts_read read ≡ counts_asked call read
counts-of decls call (operands.Items lists) are = are.1
counts-of decls call (operands.Stats stats) are = refl
counts-of decls call (operands.Picture p) are = refl
counts-of decls call (operands.Big total) are = refl

many-of : (decls : Declared) (call : Call) (read : Operands) (weights : List ℕ) → AreWeights decls call read weights → length weights ≡ weights_asked decls call read weights
many-of decls call (operands.Items lists) weights are = refl
many-of decls call (operands.Stats stats) weights are = refl
many-of decls call (operands.Picture p) weights are = refl
many-of decls call (operands.Big total) weights are = are.0

heavy-of : (decls : Declared) (call : Call) (read : Operands) (weights : List ℕ) → AreOperands decls call read → AreWeights decls call read weights → AreLight decls call read weights
    → nat_lt most_weight (weight_read call (parts_told decls call read weights)) ≡ is_big read
heavy-of decls call (operands.Items lists) weights are weigh light = le-ltb most_weight (weight_read call (parts_told decls call (operands.Items lists) weights)) light
heavy-of decls call (operands.Stats stats) weights are weigh light = le-ltb most_weight (weight_read call (parts_told decls call (operands.Stats stats) weights)) light
heavy-of decls call (operands.Picture p) weights are weigh light = le-ltb most_weight (weight_read call (parts_told decls call (operands.Picture p) weights)) light
heavy-of decls call (operands.Big total) weights are weigh light =
    let sums = weight-weighed decls call (homes_of decls call) weights weigh.0 in
    let more = are.1 in
    let whole = weigh.1 in
    lt-ltb 1048576 (weight_read call (parts_told decls call (operands.Big total) weights)) (omega arith)

pub known : (decls : Declared) (call : Call) (read : Operands) (weights : List ℕ) → ∥ AreOperands decls call read ∥₁ → ∥ AreWeights decls call read weights ∥₁ → ∥ AreLight decls call read weights ∥₁ → IsKnown decls call read weights
known decls call read weights are weigh light = record {
  kind = ∥∥₁_elim are (Coded-set coded_bool _ _) (kind-of decls call read);
  counts = ∥∥₁_elim are (Coded-set (coded_list coded_ℕ) _ _) (counts-of decls call read);
  many = ∥∥₁_elim weigh (Coded-set coded_ℕ _ _) (many-of decls call read weights);
  heavy = ∥∥₁_elim are (Coded-set coded_bool _ _) (λ a. ∥∥₁_elim weigh (Coded-set coded_bool _ _) (λ w. ∥∥₁_elim light (Coded-set coded_bool _ _) (λ l. heavy-of decls call read weights a w l)));
}

-- parts by the numbers of a range, each once

abbrev Apart : List ℕ → Type 0
Apart [] = Unit {0}
Apart (d ∷ ds) = AllByRecursion (λ e. eqb d e ≡ false) ds × Apart ds

none-below : (p : ℕ → Bool) (d a n : ℕ) → d < a → AllByRecursion (λ e. eqb d e ≡ false) (filter p (range_with_len a n))
none-below p d a zero before = tt
none-below p d a (suc n) before = go (p a) (none-below p d (a + 1) n (omega arith))
  where
    go : (b : Bool) → AllByRecursion (λ e. eqb d e ≡ false) (filter p (range_with_len (a + 1) n)) → AllByRecursion (λ e. eqb d e ≡ false) (cond b (a ∷ filter p (range_with_len (a + 1) n)) (filter p (range_with_len (a + 1) n)))
    go true rest = (ne_eqb d a (λ same. omega arith), rest)
    go false rest = rest

range-apart : (p : ℕ → Bool) (a n : ℕ) → Apart (filter p (range_with_len a n))
range-apart p a zero = tt
range-apart p a (suc n) = go (p a) (range-apart p (a + 1) n) (none-below p a (a + 1) n (omega arith))
  where
    go : (b : Bool) → Apart (filter p (range_with_len (a + 1) n)) → AllByRecursion (λ e. eqb a e ≡ false) (filter p (range_with_len (a + 1) n)) → Apart (cond b (a ∷ filter p (range_with_len (a + 1) n)) (filter p (range_with_len (a + 1) n)))
    go true rest none = (none, rest)
    go false rest none = rest

abbrev firsts : Parts → List ℕ
firsts ps = map (λ p. p.0) ps

abbrev found : Parts → List ℕ → Parts
found ps ds = map (λ d. (d, part_at ps d)) ds

passed-over : (p : ℕ × Part) (ps : Parts) (ds : List ℕ) → AllByRecursion (λ e. eqb p.0 e ≡ false) ds → found (p ∷ ps) ds ≡ found ps ds
passed-over p ps [] none = refl
passed-over p ps (d ∷ ds) none =
    ap (λ (b : Bool). (d, cond b p.1 (part_at ps d)) ∷ found (p ∷ ps) ds) none.0 ∙ ap (λ qs. (d, part_at ps d) ∷ qs) (passed-over p ps ds none.1)

parts-from : (ps : Parts) → Apart (firsts ps) → ps ≡ found ps (firsts ps)
parts-from [] apart = refl
parts-from (p ∷ ps) apart =
    let here : cond (eqb p.0 p.0) p.1 (part_at ps p.0) ≡ p.1 = ap (λ (b : Bool). cond b p.1 (part_at ps p.0)) (eq-eqb p.0 p.0 refl) in
    ap (λ qs. p ∷ qs) (parts-from ps apart.1 ∙ sym (passed-over p ps (firsts ps) apart.0))
    ∙ ap (λ (q : Part). (p.0, q) ∷ found (p ∷ ps) (firsts ps)) (sym here)

-- what holds of each number of a range that passes
pub each-same : {B : Type 0} (f g : ℕ → B) (p : ℕ → Bool) (a n : ℕ) → ((d : ℕ) → d < a + n → p d ≡ true → f d ≡ g d) → map f (filter p (range_with_len a n)) ≡ map g (filter p (range_with_len a n))
each-same f g p a zero same = refl
each-same f g p a (suc n) same = go (p a) refl (each-same f g p (a + 1) n (λ d below passes. same d (omega arith) passes))
  where
    go : (b : Bool) → p a ≡ b → map f (filter p (range_with_len (a + 1) n)) ≡ map g (filter p (range_with_len (a + 1) n))
        → map f (cond b (a ∷ filter p (range_with_len (a + 1) n)) (filter p (range_with_len (a + 1) n))) ≡ map g (cond b (a ∷ filter p (range_with_len (a + 1) n)) (filter p (range_with_len (a + 1) n)))
    go true passes rest = ap (λ x. x ∷ map f (filter p (range_with_len (a + 1) n))) (same a (omega arith) passes) ∙ ap (λ xs. g a ∷ xs) rest
    go false passes rest = rest

-- a number is among those of a range that pass exactly where it is in the range and passes

pub home-any : (p : ℕ → Bool) (d a n : ℕ) → a ≤ d → d < a + n → p d ≡ true → list_any (λ x. eqb x d) (filter p (range_with_len a n)) ≡ true
home-any p d a zero from below passes = absurd (omega arith)
home-any p d a (suc n) from below passes = go (p a) refl (eqb a d) refl (λ above. home-any p d (a + 1) n above (omega arith) passes)
  where
    rest : List ℕ
    rest = filter p (range_with_len (a + 1) n)

    go : (b : Bool) → p a ≡ b → (e : Bool) → eqb a d ≡ e → (a + 1 ≤ d → list_any (λ x. eqb x d) rest ≡ true) → list_any (λ x. eqb x d) (cond b (a ∷ rest) rest) ≡ true
    go true passed true same later = or_left (eqb a d) (list_any (λ x. eqb x d) rest) same
    go true passed false apart later = or_right (eqb a d) (list_any (λ x. eqb x d) rest) (later (let distinct = eqb-false a d apart in omega arith))
    go false other true same later = absurd (false≢true (sym other ∙ ap p (eqb-true a d same) ∙ passes))
    go false other false apart later = later (let distinct = eqb-false a d apart in omega arith)

pub record IsAmong (p : ℕ → Bool) (d a n : ℕ) : Type 0 where
  pub passes : p d ≡ true
  pub from : a ≤ d
  pub below : d < a + n

pub any-home : (p : ℕ → Bool) (d a n : ℕ) → list_any (λ x. eqb x d) (filter p (range_with_len a n)) ≡ true → IsAmong p d a n
any-home p d a zero any = absurd (false≢true any)
any-home p d a (suc n) any = go (p a) refl any (any-home p d (a + 1) n)
  where
    rest : List ℕ
    rest = filter p (range_with_len (a + 1) n)

    later : IsAmong p d (a + 1) n → IsAmong p d a (suc n)
    later is = record { passes = is.passes; from = (let from = is.from in omega arith); below = (let below = is.below in omega arith) }

    go : (b : Bool) → p a ≡ b → list_any (λ x. eqb x d) (cond b (a ∷ rest) rest) ≡ true → (list_any (λ x. eqb x d) rest ≡ true → IsAmong p d (a + 1) n) → IsAmong p d a (suc n)
    go false other any again = later (again any)
    go true passes any again = elim (or_cases (eqb a d) (list_any (λ x. eqb x d) rest) any) [
      | inl same ↦ let one = eqb-true a d same in record { passes = ap p (sym one) ∙ passes; from = omega arith; below = omega arith }
      | inr others ↦ later (again others)
    ]

-- the parts that were told are those of the call's descriptors

firsts-map : (f : ℕ → Part) (ds : List ℕ) → firsts (map (λ d. (d, f d)) ds) ≡ ds
firsts-map f [] = refl
firsts-map f (d ∷ ds) = ap (λ xs. d ∷ xs) (firsts-map f ds)

firsts-weighed : (decls : Declared) (call : Call) (ds weights : List ℕ) → length weights ≡ length ds → firsts (weighed_parts decls call ds weights) ≡ ds
firsts-weighed decls call [] weights same = refl
firsts-weighed decls call (d ∷ ds) [] same = absurd (omega arith)
firsts-weighed decls call (d ∷ ds) (w ∷ ws) same = ap (λ xs. d ∷ xs) (firsts-weighed decls call ds ws (omega arith))

firsts-told : (decls : Declared) (call : Call) (read : Operands) (weights : List ℕ) → length weights ≡ weights_asked decls call read weights → firsts (parts_told decls call read weights) ≡ homes_of decls call
firsts-told decls call (operands.Items lists) weights many = firsts-map (λ d. Read (items_told decls d call.operands lists)) (homes_of decls call)
firsts-told decls call (operands.Stats stats) weights many = firsts-map (λ d. Counted stats) (homes_of decls call)
firsts-told decls call (operands.Picture p) weights many = firsts-map (λ d. Pictured p.entries p.arena) (homes_of decls call)
firsts-told decls call (operands.Big total) weights many = firsts-weighed decls call (homes_of decls call) weights many

-- what was weighed of a descriptor says its places
weighed-at : (decls : Declared) (call : Call) (ds weights : List ℕ) (d : ℕ) → length weights ≡ length ds → count_by (eqb d) ds ≡ 1
    → part_at (weighed_parts decls call ds weights) d ≡ weighed_by (entry call.op).gives (places_told decls d call.operands) (part_weight (part_at (weighed_parts decls call ds weights) d))
weighed-at decls call [] weights d same once = absurd (omega arith)
weighed-at decls call (k ∷ ds) [] d same once = absurd (omega arith)
weighed-at decls call (k ∷ ds) (w ∷ ws) d same once =
    go (eqb k d) refl (weighed-at decls call ds ws d (omega arith)) (sum_by-cons (λ y. cond (eqb d y) 1 0) k ds)
  where
    rest : Parts
    rest = weighed_parts decls call ds ws

    weighed : ℕ → ℕ → Part
    weighed e n = weighed_by (entry call.op).gives (places_told decls e call.operands) n

    go : (b : Bool) → eqb k d ≡ b → (count_by (eqb d) ds ≡ 1 → part_at rest d ≡ weighed d (part_weight (part_at rest d))) → count_by (eqb d) (k ∷ ds) ≡ cond (eqb d k) 1 0 + count_by (eqb d) ds
        → cond b (weighed k w) (part_at rest d) ≡ weighed d (part_weight (cond b (weighed k w) (part_at rest d)))
    go true e later cons = ap (λ n. weighed k n) (sym (weight-by (entry call.op).gives (places_told decls k call.operands) w)) ∙ ap (λ e. weighed e (part_weight (weighed k w))) (eqb-true k d e)
    go false e later cons =
        let apart : eqb d k ≡ false = ne_eqb d k (λ one. eqb-false k d e (sym one)) in
        let no : cond {A = ℕ} (eqb d k) 1 0 ≡ 0 = ap (λ (b : Bool). cond {A = ℕ} b 1 0) apart in
        later (omega arith)

-- each part that was told, read again, is what the call takes there

reread-weighed : (g : Gives) (decls : Declared) (c : Contents) (call : Call) (d w : ℕ) → has_weight g ≡ true → IsDeclared decls → list_all (is_operand_of decls) call.operands ≡ true → HasShape decls d c
    → reread c (weighed_by g (places_told decls d call.operands) w) ≡ part_by g decls (shown c) call true d
reread-weighed gives.Items decls c call d w has declared views shape = ap (Weighed (places_told decls d call.operands)) (weight-there decls c d call.operands declared views shape)
reread-weighed gives.Statistics decls c call d w has declared views shape = absurd (false≢true has)
reread-weighed gives.Picture decls c call d w has declared views shape = refl

reread-items : (g : Gives) (decls : Declared) (c : Contents) (call : Call) (d : ℕ) (xs : List (Place × Item)) → is_same g ≡ true → IsDeclared decls → list_all (is_operand_of decls) call.operands ≡ true → HasShape decls d c
    → map (λ (i : Place × Item). i.0) xs ≡ places_told decls d call.operands → reread c (Read xs) ≡ part_by g decls (shown c) call false d
reread-items gives.Items decls c call d xs has declared views shape places =
    ap (λ ys. Read ys) (sym (map-map (there c) (λ (i : Place × Item). i.0) xs) ∙ ap (map (there c)) places ∙ sym (taken-there decls c d call.operands declared views shape))
reread-items gives.Statistics decls c call d xs has declared views shape places = absurd (false≢true has)
reread-items gives.Picture decls c call d xs has declared views shape places = absurd (false≢true has)

reread-counted : (g : Gives) (decls : Declared) (c : Contents) (call : Call) (d : ℕ) (stats : Stats) → is_statistics g ≡ true → reread c (Counted stats) ≡ part_by g decls (shown c) call false d
reread-counted gives.Items decls c call d stats is = absurd (false≢true is)
reread-counted gives.Statistics decls c call d stats is = refl
reread-counted gives.Picture decls c call d stats is = absurd (false≢true is)

reread-pictured : (g : Gives) (decls : Declared) (c : Contents) (call : Call) (d : ℕ) (entries : List (List ℕ)) (arena : List ℕ) → is_picture g ≡ true → reread c (Pictured entries arena) ≡ part_by g decls (shown c) call false d
reread-pictured gives.Items decls c call d entries arena is = absurd (false≢true is)
reread-pictured gives.Statistics decls c call d entries arena is = absurd (false≢true is)
reread-pictured gives.Picture decls c call d entries arena is = refl

reread-told : (decls : Declared) (c : Contents) (call : Call) (read : Operands) (weights : List ℕ) (d : ℕ) → IsDeclared decls → list_all (is_operand_of decls) call.operands ≡ true → IsKnown decls call read weights → d < length decls.descrs → is_named decls call d ≡ true → HasShape decls d c
    → reread c (part_at (parts_told decls call read weights) d) ≡ part decls (shown c) call (is_big read) d
reread-told decls c call (operands.Items lists) weights d declared views is below named shape =
    let told : ℕ → Part = λ k. Read (items_told decls k call.operands lists) in
    ap (reread c) (part-there told (homes_of decls call) d (once-among (is_named decls call) d (length decls.descrs) below named))
    ∙ reread-items (entry call.op).gives decls c call d (items_told decls d call.operands lists) is.kind declared views shape (places-of-items decls d call.operands lists is.counts)
reread-told decls c call (operands.Stats stats) weights d declared views is below named shape =
    ap (reread c) (part-there (λ k. Counted stats) (homes_of decls call) d (once-among (is_named decls call) d (length decls.descrs) below named))
    ∙ reread-counted (entry call.op).gives decls c call d stats is.kind
reread-told decls c call (operands.Picture p) weights d declared views is below named shape =
    ap (reread c) (part-there (λ k. Pictured p.entries p.arena) (homes_of decls call) d (once-among (is_named decls call) d (length decls.descrs) below named))
    ∙ reread-pictured (entry call.op).gives decls c call d p.entries p.arena is.kind
reread-told decls c call (operands.Big total) weights d declared views is below named shape =
    ap (reread c) (weighed-at decls call (homes_of decls call) weights d is.many (once-among (is_named decls call) d (length decls.descrs) below named))
    ∙ reread-weighed (entry call.op).gives decls c call d (part_weight (part_at (parts_told decls call (operands.Big total) weights) d)) is.kind declared views shape

-- what is taken weighs what its call weighs, whether it is told whole or by its weights
weight-taken : (decls : Declared) (w : World) (call : Call) (big : Bool) → weight_read call (map (λ d. (d, part decls (w d) call big d)) (homes_of decls call)) ≡ call_weight decls w call
weight-taken decls w call big =
    let one : ℕ → ℕ × Part = λ d. (d, part decls (w d) call big d) in
    ap (λ n. n + sum_by literal_weight call.operands)
    (sum_by-map (λ (p : ℕ × Part). part_weight p.1) one (homes_of decls call)
    ∙ ap (λ (f : ℕ → ℕ). sum_by f (homes_of decls call)) (λ i d. parts-tell decls (w d) call big d i))

-- Parts that were told of a call, and are the same when they are read again, are what the call takes.
pub parts-agree : (decls : Declared) (cs : ℕ → Contents) (call : Call) (read : Operands) (weights : List ℕ) → IsDeclared decls → list_all (is_operand_of decls) call.operands ≡ true → IsKnown decls call read weights
    → ((d : ℕ) → d < length decls.descrs → is_named decls call d ≡ true → HasShape decls d (cs d))
    → ((d : ℕ) → d < length decls.descrs → is_named decls call d ≡ true → reread (cs d) (part_at (parts_told decls call read weights) d) ≡ part_at (parts_told decls call read weights) d)
    → parts_told decls call read weights ≡ parts_of decls (world_of cs) call
parts-agree decls cs call read weights declared views is shapes again =
    let w = world_of cs in
    let told = parts_told decls call read weights in
    let n = length decls.descrs in
    let firsts = firsts-told decls call read weights is.many in
    let each : told ≡ map (λ d. (d, part decls (w d) call (is_big read) d)) (homes_of decls call) =
    parts-from told (subst Apart (sym firsts) (range-apart (is_named decls call) 0 n))
    ∙ ap (found told) firsts
    ∙ each-same (λ d. (d, part_at told d)) (λ d. (d, part decls (w d) call (is_big read) d)) (is_named decls call) 0 n
    (λ d inside named. let below : d < n = omega arith in ap (λ (p : Part). (d, p)) (sym (again d below named) ∙ reread-told decls (cs d) call read weights d declared views is below named (shapes d below named))) in
    let heavy : is_heavy decls w call ≡ is_big read = ap (λ m. nat_lt most_weight m) (sym (ap (weight_read call) each ∙ weight-taken decls w call (is_big read))) ∙ is.heavy in
    each ∙ ap (λ (b : Bool). map (λ d. (d, part decls (w d) call b d)) (homes_of decls call)) (sym heavy)
