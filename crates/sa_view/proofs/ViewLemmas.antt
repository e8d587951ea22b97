-- Views: their ends tell whether they fit, their places are distinct places, and which they name.
use Rattle.std.proofs.Common.{◌≡◌, ◌≢◌, ℕ, suc, ◌+◌, ◌-◌, ◌*◌, ◌<◌, ◌≤◌, ◌==◌, nat_lt, nat_le, Bool, true, false, not, cond, ◌&&◌, refl, sym, ap, ◌∙◌, inl, inr, arith, ℤ, pos, negsuc, ◌+ℤ◌, ◌*ℤ◌, ◌≤ℤ◌, ◌<ℤ◌, of_z, w32}
use Rattle.std.specs.List.{list_any, range_with_len}
use Rattle.std.proofs.Math.IntN.{neg_ℤ}
use Rattle.std.specs.Prelude.{unsigned_abs}
use Rattle.std.specs.Prelude.{int_lt}
use Rattle.std.proofs.Math.Nat.{mul-le-mul_right, mul-lt-mul_of_pos_right}
use Rattle.std.proofs.lemmas.Bool.{and_from, and_parts, and_right, cases_lt, leb-true, le-leb, ltb-true, ltb-false, lt-ltb, eq-eqb, ne_eqb, eqb-true, eqb-false, false≢true, not-true}
use Rattle.std.proofs.lemmas.Bool.Decides.{same_from_decides}
use Rattle.std.proofs.lemmas.Int.{ints}
use Rattle.std.proofs.lemmas.List.FromFn.{length-map-range_with_len}
use Rattle.sa_view.specs.Laws.{ArePlaces}
use Rattle.sa_view.specs.Views.{at_step, fits, is_within, is_zero, natural, place_at, places_of, names, all_within, overlap}
use Rattle.sa_view.specs.declared.view.View.{View}
use Rattle.sa_view.proofs.RangeLemmas.{each-in_range, all-in_range, any-alike, any-in_range, any-map, none-in_range, below-map, distinct-map}

-- two tests, each of which gives the other
pub same_tests : (x y : Bool) → (x ≡ true → y ≡ true) → (y ≡ true → x ≡ true) → x ≡ y
same_tests x y there back = same_from_decides x y (there, back) (λ h. h, λ h. h)

-- the whole number at k, of a start and a step
abbrev pub stepped : ℕ → ℤ → ℕ → ℤ
stepped start step k = pos start +ℤ (pos k *ℤ step)

-- so far down from a start
abbrev pub down : ℕ → ℕ → ℤ
down start far = pos start +ℤ neg_ℤ (pos far)

pub down-is : (start far : ℕ) → far ≤ start → down start far ≡ pos (start - far)
down-is start far within = omega (arith, ints)

within-tells : (n : ℕ) (z : ℤ) → is_within n z ≡ true → (pos 0 ≤ℤ z) × (z <ℤ pos n)
within-tells n (pos m) within = (omega (arith, ints), omega (arith, ints, ltb-true m n within))
within-tells n (negsuc m) within = absurd (false≢true within)

down-within : (n start far : ℕ) → is_within n (down start far) ≡ true → far ≤ start
down-within n start far within = omega (arith, ints, (within-tells n (down start far) within).0)

-- what is between the ends is within, and the first end is the start
between : (n start : ℕ) (step : ℤ) (k m : ℕ) → k ≤ m → start < n → is_within n (stepped start step m) ≡ true → is_within n (stepped start step k) ≡ true
between n start (pos c) k m before room within = lt-ltb (start + k * c) n (omega (arith, ltb-true (start + m * c) n within, mul-le-mul_right c before))
between n start (negsuc c) k m before room within =
    let deep = down-within n start (m * suc c) within in
    let nearer = mul-le-mul_right (suc c) before in
    ap (is_within n) (down-is start (k * suc c) (omega arith)) ∙ lt-ltb (start - k * suc c) n (omega arith)

first-within : (n start : ℕ) (step : ℤ) → is_within n (stepped start step 0) ≡ true → start < n
first-within n start (pos c) within = omega (arith, ltb-true (start + 0 * c) n within)
first-within n start (negsuc c) within = omega (arith, ints, (within-tells n (down start (0 * suc c)) within).1)

-- a view without places fits where it starts at most behind the last place of the array
pub fits-none : (n : ℕ) (v : View) → is_zero v.step ≡ false → v.count ≡ 0 → fits n v ≡ nat_le v.start n
fits-none n v steps none = rw (steps, none) refl

fits-some : (n : ℕ) (v : View) → is_zero v.step ≡ false → 0 < v.count → fits n v ≡ all_within n v
fits-some n v steps some = rw (steps, ne_eqb v.count 0 (λ none. omega arith)) refl

-- one with places fits where its two ends are within
pub fits-by_ends : (n : ℕ) (v : View) → is_zero v.step ≡ false → 0 < v.count → fits n v ≡ (nat_lt v.start n && is_within n (at_step v (v.count - 1)))
fits-by_ends n v steps some =
    let ends = nat_lt v.start n && is_within n (at_step v (v.count - 1)) in
    fits-some n v steps some ∙ same_tests (all_within n v) ends
    (λ all. let each = all-in_range (λ k. is_within n (at_step v k)) 0 v.count all in
    and_from (nat_lt v.start n) (is_within n (at_step v (v.count - 1))) (lt-ltb v.start n (first-within n v.start v.step (each 0 (omega arith) (omega arith)))) (each (v.count - 1) (omega arith) (omega arith)))
    (λ both. let parts = and_parts (nat_lt v.start n) (is_within n (at_step v (v.count - 1))) both in
    each-in_range (λ k. is_within n (at_step v k)) 0 v.count (λ k l h. between n v.start v.step k (v.count - 1) (omega arith) (ltb-true v.start n parts.0) parts.1))

-- what a view that fits says of its step and its places
steps-on : (n : ℕ) (v : View) → fits n v ≡ true → is_zero v.step ≡ false
steps-on n v fit = not-true (is_zero v.step) (and_parts (not (is_zero v.step)) (cond (v.count == 0) (nat_le v.start n) (all_within n v)) fit).0

pub fits-within : (n : ℕ) (v : View) → fits n v ≡ true → (k : ℕ) → k < v.count → is_within n (at_step v k) ≡ true
fits-within n v fit k h = all-in_range (λ j. is_within n (at_step v j)) 0 v.count (sym (fits-some n v (steps-on n v fit) (omega arith)) ∙ fit) k (omega arith) (omega arith)

-- the place at k
pub place-below : (n : ℕ) (z : ℤ) → is_within n z ≡ true → natural z < n
place-below n (pos m) within = ltb-true m n within
place-below n (negsuc m) within = absurd (false≢true within)

pub place-is : (n : ℕ) (z : ℤ) → is_within n z ≡ true → z ≡ pos (natural z)
place-is n (pos m) within = refl
place-is n (negsuc m) within = absurd (false≢true within)

place-down : (n start far : ℕ) → is_within n (down start far) ≡ true → natural (down start far) ≡ start - far
place-down n start far within = ap natural (down-is start far (down-within n start far within))

places-apart : (n start : ℕ) (step : ℤ) (j k : ℕ) → is_zero step ≡ false → j < k → is_within n (stepped start step k) ≡ true → is_within n (stepped start step j) ≡ true → natural (stepped start step j) ≢ natural (stepped start step k)
places-apart n start (pos c) j k steps before at_k at_j same =
    let some : 0 < c = omega (arith, eqb-false c 0 steps) in
    omega (arith, mul-lt-mul_of_pos_right before some)
places-apart n start (negsuc c) j k steps before at_k at_j same =
    let some : 0 < suc c = omega arith in
    omega (arith, mul-lt-mul_of_pos_right before some, down-within n start (k * suc c) at_k, place-down n start (k * suc c) at_k, place-down n start (j * suc c) at_j)

pub are-places : (v : View) (n : ℕ) → fits n v ≡ true → ArePlaces n v.count (places_of v)
are-places v n fit =
    let within = fits-within n v fit in
    record {
      count = length-map-range_with_len (place_at v) 0 v.count;
      distinct = distinct-map (place_at v) 0 v.count (λ j k l before h. places-apart n v.start v.step j k (steps-on n v fit) before (within k (omega arith)) (within j (omega arith)));
      within = below-map (place_at v) n 0 v.count (λ k l h. place-below n (at_step v k) (within k (omega arith)));
    }

-- which places a view names, by how far they are from its start
pub names-up : (v : View) (c place : ℕ) → v.step ≡ pos c → names v place ≡ list_any (λ k. v.start + k * c == place) (range_with_len 0 v.count)
names-up v c place up = any-map (λ p. p == place) (place_at v) (range_with_len 0 v.count) ∙ ap (λ step. list_any (λ k. natural (stepped v.start step k) == place) (range_with_len 0 v.count)) up

far-down : (n start far place : ℕ) → is_within n (down start far) ≡ true → (natural (down start far) == place) ≡ (place + far == start)
far-down n start far place within =
    let deep = down-within n start far within in
    let is = place-down n start far within in
    same_tests (natural (down start far) == place) (place + far == start)
    (λ here. eq-eqb (place + far) start (omega (arith, eqb-true (natural (down start far)) place here)))
    (λ here. eq-eqb (natural (down start far)) place (omega (arith, eqb-true (place + far) start here)))

pub names-down : (n : ℕ) (v : View) (c place : ℕ) → fits n v ≡ true → v.step ≡ negsuc c → names v place ≡ list_any (λ k. place + k * suc c == v.start) (range_with_len 0 v.count)
names-down n v c place fit step = any-map (λ p. p == place) (place_at v) (range_with_len 0 v.count) ∙ any-alike (λ k. place_at v k == place) (λ k. place + k * suc c == v.start) 0 v.count
    (λ k l h. let within : is_within n (stepped v.start (negsuc c) k) ≡ true = ap (λ z. is_within n (stepped v.start z k)) (sym step) ∙ fits-within n v fit k (omega arith) in
    ap (λ z. natural (stepped v.start z k) == place) step ∙ far-down n v.start (k * suc c) place within)

-- the same by the size of the step
pub names-forth : (v : View) (place stride : ℕ) → stride ≡ unsigned_abs v.step → int_lt (pos 0) v.step ≡ true → names v place ≡ list_any (λ k. v.start + k * stride == place) (range_with_len 0 v.count)
names-forth v place stride size forth = go v.step refl forth where
  go : (step : ℤ) → v.step ≡ step → int_lt (pos 0) step ≡ true → names v place ≡ list_any (λ k. v.start + k * stride == place) (range_with_len 0 v.count)
  go (pos c) is forth = let same : c ≡ stride = sym (size ∙ ap unsigned_abs is) in names-up v c place is ∙ ap (λ d. list_any (λ k. v.start + k * d == place) (range_with_len 0 v.count)) same
  go (negsuc c) is forth = absurd (false≢true forth)

pub names-back : (n : ℕ) (v : View) (place stride : ℕ) → fits n v ≡ true → stride ≡ unsigned_abs v.step → int_lt (pos 0) v.step ≡ false → names v place ≡ list_any (λ k. place + k * stride == v.start) (range_with_len 0 v.count)
names-back n v place stride fit size back = go v.step refl back where
  go : (step : ℤ) → v.step ≡ step → int_lt (pos 0) step ≡ false → names v place ≡ list_any (λ k. place + k * stride == v.start) (range_with_len 0 v.count)
  go (pos c) is back = absurd (false≢true (sym (steps-on n v fit) ∙ (ap is_zero is ∙ eq-eqb c 0 (omega (arith, ltb-false 0 c back)))))
  go (negsuc c) is back = let same : suc c ≡ stride = sym (size ∙ ap unsigned_abs is) in names-down n v c place fit is ∙ ap (λ d. list_any (λ k. place + k * d == v.start) (range_with_len 0 v.count)) same

-- a step whose bits are not those of 0
pub step-on : (step : ℤ) → (of_z w32 step ≡ 0 → ⊥) → is_zero step ≡ false
step-on (pos c) on = ne_eqb c 0 on
step-on (negsuc c) on = refl

-- two views of one array overlap at a place that both name, and otherwise not
pub overlap-at : (a b : View) (k : ℕ) → a.array ≡ b.array → k < a.count → names b (place_at a k) ≡ true → overlap a b ≡ true
overlap-at a b k one h named = and_from (a.array == b.array) (list_any (names b) (places_of a)) (eq-eqb a.array b.array one)
    (any-map (names b) (place_at a) (range_with_len 0 a.count) ∙ any-in_range (λ j. names b (place_at a j)) 0 a.count k (omega arith) (omega arith) named)

pub overlap-nowhere : (a b : View) → ((k : ℕ) → k < a.count → names b (place_at a k) ≡ false) → overlap a b ≡ false
overlap-nowhere a b none = and_right (a.array == b.array) (list_any (names b) (places_of a))
    (any-map (names b) (place_at a) (range_with_len 0 a.count) ∙ none-in_range (λ j. names b (place_at a j)) 0 a.count (λ k l h. none k (omega arith)))

within-more : (n m : ℕ) (z : ℤ) → n ≤ m → is_within n z ≡ true → is_within m z ≡ true
within-more n m (pos k) more within = lt-ltb k m (omega (arith, ltb-true k n within))
within-more n m (negsuc k) more within = absurd (false≢true within)

pub fits-more : (v : View) (n m : ℕ) → n ≤ m → fits n v ≡ true → fits m v ≡ true
fits-more v n m more fit = elim (cases_lt 0 v.count) [
  | inl some ↦ fits-some m v (steps-on n v fit) some ∙ each-in_range (λ k. is_within m (at_step v k)) 0 v.count (λ k l h. within-more n m (at_step v k) more (fits-within n v fit k (omega arith)))
  | inr none ↦
      let on = steps-on n v fit in
      let least = leb-true v.start n (sym (fits-none n v on (omega arith)) ∙ fit) in
      fits-none m v on (omega arith) ∙ le-leb v.start m (omega arith)
]
