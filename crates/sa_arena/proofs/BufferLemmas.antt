-- What a write leaves of a buffer.
use Rattle.std.proofs.Common.{◌≡◌, ◌≤◌, ◌+◌, ℕ, List, ◌++◌, length, take, drop, arith, rules}
use Rattle.std.proofs.lemmas.List.{places, same_lists}
use Rattle.sa_arena.specs.Buffers.{written}

pub length_written : (bs : List ℕ) (s : ℕ) (t : List ℕ) → s + length t ≤ length bs → length (written bs s t) ≡ length bs
length_written bs s t h = search (rules, places)

-- a write behind another is one write of both
pub written_twice : (bs : List ℕ) (s n : ℕ) (t u : List ℕ) → n ≡ s + length t → s + (length t + length u) ≤ length bs → written (written bs s t) n u ≡ written bs s (t ++ u)
written_twice bs s n t u e h = same_lists _ _ (search (rules, places)) (λ k d b. grind (arith, places))

-- the front of a buffer after a write within it, and after one at its end
pub take-written : (bs : List ℕ) (n s : ℕ) (t : List ℕ) → s + length t ≤ n → n ≤ length bs → take n (written bs s t) ≡ written (take n bs) s t
take-written bs n s t h k = same_lists _ _ (search (rules, places)) (λ j d b. grind (arith, places))

pub take-written_end : (bs : List ℕ) (s n : ℕ) (t : List ℕ) → n ≡ s + length t → n ≤ length bs → take n (written bs s t) ≡ take s bs ++ t
take-written_end bs s n t e h = same_lists _ _ (search (rules, places)) (λ j d b. grind (arith, places))

-- a write behind a front, and one in the place of it
pub written-behind : (front bs : List ℕ) (n s : ℕ) (t : List ℕ) → n ≡ length front + s → s + length t ≤ length bs → written (front ++ bs) n t ≡ front ++ written bs s t
written-behind front bs n s t e h = same_lists _ _ (search (rules, places)) (λ j d b. grind (arith, places))

pub written-front : (front bs t : List ℕ) → length t ≡ length front → written (front ++ bs) 0 t ≡ t ++ bs
written-front front bs t e = same_lists _ _ (search (rules, places)) (λ j d b. grind (arith, places))

-- a write over the end of another
pub rewritten : (bs : List ℕ) (s n : ℕ) (p q u : List ℕ) → n ≡ s + length p → length q ≡ length u → s + (length p + length u) ≤ length bs → written (written bs s (p ++ q)) n u ≡ written bs s (p ++ u)
rewritten bs s n p q u e f h = same_lists _ _ (search (rules, places)) (λ k d b. grind (arith, places))

-- a part of the front is a part of the buffer
pub part_of_front : (bs : List ℕ) (c at n m : ℕ) → m ≡ n → at + n ≤ c → c ≤ length bs → take m (drop at bs) ≡ take n (drop at (take c bs))
part_of_front bs c at n m e h k = same_lists _ _ (search (rules, places)) (λ j d b. grind (arith, places))
