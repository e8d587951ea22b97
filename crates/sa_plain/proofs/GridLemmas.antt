-- What fills cells, and what rows of one width are.
use Rattle.std.proofs.Common.{◌≡◌, ◌≤◌, ◌<◌, ◌+◌, ◌-◌, ◌*◌, ◌∙◌, refl, sym, ap, ap₂, ℕ, zero, suc, List, [], ◌∷◌, ◌++◌, length, take, drop, get_or, arith, append_assoc}
use Rattle.std.proofs.Math.ListN.{replicate, set}
use Rattle.std.specs.Vec.{with_items}
use Rattle.std.specs.declared.vec.Vec.{Vec}
use Rattle.std.proofs.lemmas.List.{drop_more, set_at, length-replicate, length-take-le, length-drop, length-append, with_items_is, replicate_more, take-replicate, drop-replicate, drop-drop, take_at, drop_at, take-take, drop-take, take-append-le, drop-append-le}
use Rattle.sa_plain.specs.Grids.{rows}

-- one more cell is filled
pub filled_more : {X : Type 0} (xs : List X) (n : ℕ) (v : X) → n < length xs → set (replicate n v ++ drop n xs) n v ≡ replicate (n + 1) v ++ drop (n + 1) xs
filled_more xs n v h =
    ap (λ ys. set (replicate n v ++ ys) n v) (drop_more xs n v h)
    ∙ (set_at (replicate n v) (get_or xs n v) (drop (n + 1) xs) v n (length-replicate n v)
    ∙ (sym (append_assoc (replicate n v) (v ∷ []) (drop (n + 1) xs)) ∙ ap (λ ys. ys ++ drop (n + 1) xs) (replicate_more n v)))

pub length-rows : {X : Type 0} (n w : ℕ) (xs : List X) → length (rows n w xs) ≡ n
length-rows zero w xs = refl
length-rows (suc n) w xs = ap suc (length-rows n w (drop w xs))

-- a row within the cells
pub row_within : (k n w : ℕ) → k < n → k * w + w ≤ n * w
row_within k zero w h = absurd (omega arith)
row_within zero (suc n) w h = grind arith
row_within (suc k) (suc n) w h = let below = row_within k n w (omega arith) in grind arith

-- the row at a place
pub get-rows : {X : Type 0} (n w k : ℕ) (xs : List X) (d : List X) → k < n → get_or (rows n w xs) k d ≡ take w (drop (k * w) xs)
get-rows zero w k xs d h = absurd (omega arith)
get-rows (suc n) w zero xs d h = ap (λ m. take w (drop m xs)) (let e : 0 ≡ 0 * w = grind arith in e)
get-rows (suc n) w (suc k) xs d h =
    let e : w + k * w ≡ suc k * w = grind arith in
    get-rows n w k (drop w xs) d (omega arith) ∙ ap (take w) (drop-drop (k * w) w xs ∙ ap (λ m. drop m xs) e)

-- new rows are of zeros
pub rows-replicate : {X : Type 0} (n w : ℕ) (z : X) → rows n w (replicate (n * w) z) ≡ replicate n (replicate w z)
rows-replicate zero w z = refl
rows-replicate (suc n) w z =
    let le : w ≤ suc n * w = grind arith in
    let e : suc n * w - w ≡ n * w = grind arith in
    ap₂ (λ r rs. r ∷ rs) (take-replicate w (suc n * w) z le)
    (ap (rows n w) (drop-replicate w (suc n * w) z ∙ ap (λ m. replicate m z) e) ∙ rows-replicate n w z)

-- the cells with another row at a place are the rows with this one there
pub set-rows : {X : Type 0} (n w k : ℕ) (xs ys : List X) → k < n → n * w ≤ length xs → length ys ≡ w →
    rows n w (take (k * w) xs ++ (ys ++ drop (k * w + w) xs)) ≡ set (rows n w xs) k ys
set-rows zero w k xs ys h all wide = absurd (omega arith)
set-rows (suc n) w zero xs ys h all wide =
    let e : 0 * w ≡ 0 = grind arith in
    ap (λ m. rows (suc n) w (take m xs ++ (ys ++ drop (m + w) xs))) e
    ∙ (ap (λ m. rows (suc n) w (ys ++ drop m xs)) (let z : 0 + w ≡ w = omega arith in z)
    ∙ ap₂ (λ r cells. r ∷ rows n w cells) (take_at ys (drop w xs) w wide) (drop_at ys (drop w xs) w wide))
set-rows (suc n) w (suc k) xs ys h all wide =
    let e : suc k * w ≡ w + k * w = grind arith in
    let within = row_within (suc k) (suc n) w h in
    let front : w ≤ length (take (w + k * w) xs) = rw (length-take-le (w + k * w) xs (omega arith)) (omega arith) in
    let tail : List _ = ys ++ drop (w + k * w + w) xs in
    let more : suc n * w ≡ n * w + w = grind arith in
    let all' : n * w ≤ length (drop w xs) = rw (length-drop w xs) (omega arith) in
    ap (λ m. rows (suc n) w (take m xs ++ (ys ++ drop (m + w) xs))) e
    ∙ ap₂ (λ r cells. r ∷ rows n w cells)
    (take-append-le w (take (w + k * w) xs) tail front ∙ take-take w (w + k * w) xs (omega arith))
    (drop-append-le w (take (w + k * w) xs) tail front
    ∙ ap₂ (λ a b. a ++ (ys ++ b)) (drop-take w (k * w) xs)
    (ap (λ m. drop m xs) (let s : w + k * w + w ≡ w + (k * w + w) = omega arith in s) ∙ sym (drop-drop (k * w + w) w xs)))
    ∙ ap (λ rs. take w xs ∷ rs) (set-rows n w k (drop w xs) ys (omega arith) all' wide)

-- a vector's rows after a write into the slice that it lent
pub lent_row : {X Z : Type 0} (v : Vec X Z) (lent new ys : List X) (n w k : ℕ) → lent ≡ v.items → length lent ≡ v.len → length new ≡ length lent →
    new ≡ take (k * w) lent ++ (ys ++ drop (k * w + w) lent) → length v.items ≡ n * w → k < n → length ys ≡ w → rows n w (with_items v new).items ≡ set (rows n w v.items) k ys
lent_row v lent new ys n w k same len kept is all h wide =
    ap (rows n w) (with_items_is v new (kept ∙ len) ∙ is ∙ ap (λ xs. take (k * w) xs ++ (ys ++ drop (k * w + w) xs)) same)
    ∙ set-rows n w k v.items ys h (omega arith) wide

-- as wide as the width
pub length-padded : {X : Type 0} (xs : List X) (w : ℕ) (z : X) → length xs ≤ w → length (xs ++ replicate (w - length xs) z) ≡ w
length-padded xs w z h = simp (length-append, length-replicate) (omega arith)

-- a place among the rows, and its cells among the cells
pub place_there : {X : Type 0} (n w k : ℕ) (xs : List X) (rs : List (List X)) → rows n w xs ≡ rs → k < length rs → k < n
place_there n w k xs rs are h = let counted = length-rows n w xs in let same : length (rows n w xs) ≡ length rs = ap length are in omega arith

pub place_within : {X : Type 0} (n w k : ℕ) (xs : List X) (rs : List (List X)) → rows n w xs ≡ rs → k < length rs → length xs ≡ n * w → k * w + w ≤ length xs
place_within n w k xs rs are h all = let within = row_within k n w (place_there n w k xs rs are h) in omega arith

pub length-part : {X : Type 0} (w at : ℕ) (xs : List X) → at + w ≤ length xs → length (take w (drop at xs)) ≡ w
length-part w at xs h = length-take-le w (drop at xs) (rw (length-drop at xs) (omega arith))
