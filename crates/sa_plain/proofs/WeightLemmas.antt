-- What lists of cells weigh: so much for each, and so much for each cell.
use Rattle.std.proofs.Common.{◌≡◌, ◌+◌, ◌*◌, refl, ℕ, zero, suc, ℤ, Bool, List, [], ◌∷◌, length, map, get_or, arith}
use Rattle.std.specs.List.{sum_by}
use Rattle.std.proofs.lemmas.List.Sums.{sum_by-cons}
use Rattle.sa_base.specs.Items.{MissingItem, IntegerItem, FlagItem}
use Rattle.sa_plain.specs.Items.{item_weight}

pub bytes_weight : {T : Type 0} (rows : List (List T)) → 16 * length rows + sum_by (λ row. length row) rows ≡ sum_by (λ row. 16 + length row) rows
bytes_weight [] = refl
bytes_weight (r ∷ rs) =
    let rest = bytes_weight rs in
    let left = sum_by-cons (λ row. length row) r rs in
    let right = sum_by-cons (λ row. 16 + length row) r rs in
    omega arith

pub units_weight : {T : Type 0} (rows : List (List T)) → 16 * length rows + 4 * sum_by (λ row. length row) rows ≡ sum_by (λ row. 16 + 4 * length row) rows
units_weight [] = refl
units_weight (r ∷ rs) =
    let rest = units_weight rs in
    let left = sum_by-cons (λ row. length row) r rs in
    let right = sum_by-cons (λ row. 16 + 4 * length row) r rs in
    omega arith

-- a number and a flag weigh 16, and so does a missing item where there is none
pub number-weight : (ns : List ℤ) (k : ℕ) → 16 ≡ item_weight (get_or (map (λ n. IntegerItem n) ns) k MissingItem)
number-weight [] k = refl
number-weight (n ∷ ns) zero = refl
number-weight (n ∷ ns) (suc k) = number-weight ns k

pub flag-weight : (bs : List Bool) (k : ℕ) → 16 ≡ item_weight (get_or (map (λ b. FlagItem b) bs) k MissingItem)
flag-weight [] k = refl
flag-weight (b ∷ bs) zero = refl
flag-weight (b ∷ bs) (suc k) = flag-weight bs k
