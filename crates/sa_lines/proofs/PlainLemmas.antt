-- What a plain byte is not, and what a byte that is not plain is.
use Rattle.std.proofs.Common.{◌≡◌, ℕ, ◌<◌, ◌≤◌, true, false, List, ◌∷◌, arith}
use Rattle.std.specs.List.{list_all}
use Rattle.std.proofs.lemmas.Bool.{and_parts}
use Rattle.std.proofs.lemmas.Bool.Decides.{nat_tests}
use Rattle.sa_runs.specs.Runs.{is_plain}

-- the first of plain bytes, and the others
pub plain_first : (b : ℕ) (bs : List ℕ) → list_all is_plain (b ∷ bs) ≡ true → is_plain b ≡ true
plain_first b bs h = (and_parts (is_plain b) (list_all is_plain bs) h).0

pub plain_later : (b : ℕ) (bs : List ℕ) → list_all is_plain (b ∷ bs) ≡ true → list_all is_plain bs ≡ true
plain_later b bs h = (and_parts (is_plain b) (list_all is_plain bs) h).1

pub plain_no_mark : (b : ℕ) → is_plain b ≡ true → b ≡ 34 → ⊥
plain_no_mark b h e = grind (arith, nat_tests)

pub plain_no_backslash : (b : ℕ) → is_plain b ≡ true → b ≡ 92 → ⊥
plain_no_backslash b h e = grind (arith, nat_tests)

pub plain_high : (b : ℕ) → is_plain b ≡ true → 32 ≤ b
plain_high b h = grind (arith, nat_tests)

-- each byte from 128 on is plain
pub plain_large : (b : ℕ) → 128 ≤ b → is_plain b ≡ true
plain_large b h = grind (arith, nat_tests)

pub marked_small : (b : ℕ) → is_plain b ≡ false → b < 128
marked_small b h = grind (arith, nat_tests)
