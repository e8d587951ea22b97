-- Worlds that agree on the declared descriptors have the same calls, and lists of rooms that agree are the same.
use Rattle.std.proofs.Common.{◌≡◌, ◌+◌, ◌<◌, ℕ, zero, suc, Bool, inl, inr, nat_lt, List, [], ◌∷◌, length, map, get_or, refl, sym, ap, ◌∙◌, subst, arith}
use Rattle.std.specs.List.{AllByRecursion, range_with_len, filter, sum_by}
use Rattle.std.proofs.lemmas.Bool.{cases_Bool}
use Rattle.std.proofs.lemmas.List.{ext_get_or, get_or-map}
use Rattle.std.proofs.lemmas.List.FromFn.{get_or-map-range_with_len, length-map-range_with_len}
use Rattle.std.proofs.lemmas.List.Sums.{sum_by-cons}
use Rattle.std.proofs.lemmas.Simd.{map-map}
use Rattle.std.proofs.Math.ListN.{length-map}
use Rattle.sa_call.specs.declared.call.Call.{Call}
use Rattle.sa_call.specs.Decides.{decide}
use Rattle.sa_call.specs.Decls.{Declared}
use Rattle.sa_call.specs.Limits.{most_weight}
use Rattle.sa_call.specs.Parts.{literal_weight}
use Rattle.sa_call.specs.Told.{homes_of, is_named}
use Rattle.sa_hall.specs.Contents.{Contents, no_shape, opening_of}
use Rattle.sa_loop.specs.declared.room.Room.{Room}
use Rattle.sa_loop.specs.Runs.{holds_in, room_holds}
use Rattle.sa_loop.specs.States.{World}
use Rattle.sa_loop.specs.Takes.{is_heavy, outcome_in, part, weight}

-- numbers of a range, of which some are left out, are below its end
below-kept : (p : ℕ → Bool) (a n : ℕ) → AllByRecursion (λ (d : ℕ). d < a + n) (filter p (range_with_len a n))
below-kept p a zero = tt
below-kept p a (suc n) =
    let All : ℕ → Type 0 = λ m. AllByRecursion (λ (d : ℕ). d < m) (filter p (range_with_len (a + 1) n)) in
    let end : (a + 1) + n ≡ a + suc n = omega arith in
    let rest = subst All end (below-kept p (a + 1) n) in
    elim (cases_Bool (p a)) [ inl t ↦ rw t (omega arith, rest) | inr f ↦ rw f rest ]

map-agree : {B : Type 0} (P : ℕ → Type 0) (f g : ℕ → B) (ds : List ℕ) → AllByRecursion P ds → ((d : ℕ) → P d → f d ≡ g d) → map f ds ≡ map g ds
map-agree P f g [] all same = refl
map-agree P f g (d ∷ ds) all same = let head = same d all.0 in let rest = map-agree P f g ds all.1 same in cc

sum-agree : (P : ℕ → Type 0) (f g : ℕ → ℕ) (ds : List ℕ) → AllByRecursion P ds → ((d : ℕ) → P d → f d ≡ g d) → sum_by f ds ≡ sum_by g ds
sum-agree P f g [] all same = refl
sum-agree P f g (d ∷ ds) all same =
    let head = same d all.0 in
    let rest = sum-agree P f g ds all.1 same in
    sum_by-cons f d ds ∙ (ap (λ n. n + sum_by f ds) head ∙ (ap (λ n. g d + n) rest ∙ sym (sum_by-cons g d ds)))

abbrev pub Agree : Declared → World → World → Type 0
Agree decls w v = (d : ℕ) → d < length decls.descrs → w d ≡ v d

pub outcome-same : (decls : Declared) (w v : World) (call : Call) → Agree decls w v → outcome_in decls w call ≡ outcome_in decls v call
outcome-same decls w v call same =
    let n = length decls.descrs in
    let Below : ℕ → Type 0 = λ d. d < 0 + n in
    let kept = below-kept (is_named decls call) 0 n in
    let all : (d : ℕ) → d < 0 + n → w d ≡ v d = λ d below. same d (omega arith) in
    let weights = sum-agree Below (λ d. weight decls (w d) call d) (λ d. weight decls (v d) call d) (homes_of decls call) kept (λ d below. ap (λ s. weight decls s call d) (all d below)) in
    let heavy : is_heavy decls w call ≡ is_heavy decls v call = ap (λ m. nat_lt most_weight (m + sum_by literal_weight call.operands)) weights in
    let parts = map-agree Below (λ d. (d, part decls (w d) call (is_heavy decls w call) d)) (λ d. (d, part decls (v d) call (is_heavy decls v call) d)) (homes_of decls call) kept
    (λ d below. ap (λ b. (d, part decls (w d) call b d)) heavy ∙ ap (λ s. (d, part decls s call (is_heavy decls v call) d)) (all d below)) in
    ap (decide decls call) parts

-- what a list says of what each room holds, said of what is held at a number
pub held-at : {B : Type 0} (F : Contents → B) (g : ℕ → B) (rooms : List Room) (n d : ℕ) → map (λ (r : Room). F (room_holds r)) rooms ≡ map g (range_with_len 0 n) → d < n → F (holds_in rooms d) ≡ g d
held-at F g rooms n d e below =
    let many : length rooms ≡ n = sym (length-map rooms (λ (r : Room). F (room_holds r))) ∙ (ap length e ∙ length-map-range_with_len g 0 n) in
    let all : List Contents = map room_holds rooms in
    let within : d < length all = omega (arith, many, length-map rooms room_holds) in
    sym (get_or-map F all d (opening_of no_shape) (F (opening_of no_shape)) within)
    ∙ (ap (λ xs. get_or xs d (F (opening_of no_shape))) (map-map F room_holds rooms ∙ e)
    ∙ get_or-map-range_with_len g 0 n d d (F (opening_of no_shape)) below (omega arith))

-- and the other way round
pub rooms-from : {B : Type 0} (F : Contents → B) (g : ℕ → B) (rooms : List Room) (n : ℕ) → length rooms ≡ n → ((d : ℕ) → d < n → F (holds_in rooms d) ≡ g d) → map (λ (r : Room). F (room_holds r)) rooms ≡ map g (range_with_len 0 n)
rooms-from F g rooms n many each =
    let all : List Contents = map room_holds rooms in
    let long : length all ≡ n = length-map rooms room_holds ∙ many in
    let none = F (opening_of no_shape) in
    let left = length-map all F in
    let right = length-map-range_with_len g 0 n in
    sym (map-map F room_holds rooms)
    ∙ ext_get_or none (map F all) (map g (range_with_len 0 n)) (omega arith)
    (λ d below.
    let within : d < length all = omega arith in
    get_or-map F all d (opening_of no_shape) none within ∙ (each d (omega arith) ∙ sym (get_or-map-range_with_len g 0 n d d none (omega arith) (omega arith))))
