-- Four comparisons of a vector, joined lane by lane, are the test of a mark at each byte.
use Rattle.std.proofs.Common.{◌≡◌, ℕ, ◌%◌, ◌^◌, ◌≤◌, ◌==◌, nat_lt, Bool, true, false, cond, ◌||◌, List, length, map, bit_or, refl, ap, ◌∙◌, arith, replicate}
use Rattle.std.specs.Simd.Lanes.{mask_l, top, zip2}
use Rattle.std.proofs.lemmas.List.{length-map}
use Rattle.std.proofs.lemmas.Simd.{zip2_splat, zip2_of_maps, map-map, mask_l-mod}
use Rattle.sa_runs.specs.Runs.{is_marked}

-- a lane of a comparison: all bits where it holds, and none where not
abbrev lane : Bool → ℕ
lane b = cond b 255 0

abbrev pub lane_eq : ℕ → ℕ → ℕ
lane_eq a b = lane (a == b)

abbrev pub lane_lt : ℕ → ℕ → ℕ
lane_lt a b = lane (nat_lt a b)

abbrev lanes : List ℕ → ℕ → List ℕ
lanes bytes n = zip2 bit_or (zip2 bit_or (zip2 bit_or (zip2 lane_eq bytes (replicate n 34)) (zip2 lane_eq bytes (replicate n 92))) (zip2 lane_eq bytes (replicate n 127))) (zip2 lane_lt bytes (replicate n 32))

abbrev joined_at : ℕ → ℕ
joined_at b = bit_or (bit_or (bit_or (lane_eq b 34) (lane_eq b 92)) (lane_eq b 127)) (lane_lt b 32)

lanes_joined : (bytes : List ℕ) (n : ℕ) → length bytes ≡ n → lanes bytes n ≡ map joined_at bytes
lanes_joined bytes n long =
    let quotes = zip2_splat lane_eq bytes n 34 long in
    let backslashes = zip2_splat lane_eq bytes n 92 long in
    let deletes = zip2_splat lane_eq bytes n 127 long in
    let controls = zip2_splat lane_lt bytes n 32 long in
    let two = zip2_of_maps bit_or (λ b. lane_eq b 34) (λ b. lane_eq b 92) bytes quotes backslashes in
    let three = zip2_of_maps bit_or (λ b. bit_or (lane_eq b 34) (lane_eq b 92)) (λ b. lane_eq b 127) bytes two deletes in
    zip2_of_maps bit_or (λ b. bit_or (bit_or (lane_eq b 34) (lane_eq b 92)) (lane_eq b 127)) (λ b. lane_lt b 32) bytes three controls

-- the top bit of four lanes joined
top_joined : (p q r s : Bool) → top 7 (bit_or (bit_or (bit_or (lane p) (lane q)) (lane r)) (lane s)) ≡ (((p || q) || r) || s)
top_joined false false false false = refl
top_joined false false false true = refl
top_joined false false true false = refl
top_joined false false true true = refl
top_joined false true false false = refl
top_joined false true false true = refl
top_joined false true true false = refl
top_joined false true true true = refl
top_joined true false false false = refl
top_joined true false false true = refl
top_joined true false true false = refl
top_joined true false true true = refl
top_joined true true false false = refl
top_joined true true false true = refl
top_joined true true true false = refl
top_joined true true true true = refl

tops_marked : (bytes : List ℕ) (n : ℕ) → length bytes ≡ n → map (top 7) (lanes bytes n) ≡ map is_marked bytes
tops_marked bytes n long =
    ap (map (top 7)) (lanes_joined bytes n long) ∙ (map-map (top 7) joined_at bytes ∙ (λ i. map (λ b. top_joined (b == 34) (b == 92) (b == 127) (nat_lt b 32) i) bytes))

-- the bits of a vector's marks
pub masked : (bytes : List ℕ) (n : ℕ) → length bytes ≡ n → n ≤ 64 → mask_l (map (top 7) (lanes bytes n)) % 2 ^ 64 ≡ mask_l (map is_marked bytes)
masked bytes n long few =
    ap (λ ms. mask_l ms % 2 ^ 64) (tops_marked bytes n long) ∙ mask_l-mod (map is_marked bytes) 64 (omega (arith, length-map bytes is_marked))
