use Rattle.std.proofs.Common.{◌≡◌, ◌+◌, ℕ, ℤ, pos, negsuc, true, length, refl, arith}
use Rattle.std.proofs.lemmas.Bool.{ltb-true}
use Rattle.std.proofs.lemmas.Int.{to_z-of_z}
use Rattle.std.proofs.lemmas.Str.{length-le-encodes}
use Rattle.sa_search.specs.Replaces.{limit}
use Rattle.sa_search.proofs.replaces.limit.Goals as goal
use lib.Signed.{lt_z}
use mir.Syntax.{w64}

all : (n : ℕ) (count : ℤ) → lt_z count (pos 0) ≡ true → limit n count ≡ n + 1
all n (pos k) h = let below = ltb-true k 0 h in absurd (omega arith)
all n (negsuc k) h = refl

pub returns-then-count-lt0 : goal.returns-then-count-lt0
returns-then-count-lt0 c =
    let a = c.args.a.now in
    let most = all (length a) c.args.count (rw (to_z-of_z w64 c.args.count c.ranges.count) at c.if-count-lt0.true) in
    let within = length-le-encodes a in
    omega (arith, c.size.ensures.size)
